-- Laws of maps: the walk by its nodes, which walks are alike, what is reached from a root, and nodes back from their words.
use Rattle.std.specs.Prelude.{◌≡◌, refl, Bool, true, false, cond, ◌&&◌, ◌||◌, ◌≢◌, ℕ, zero, suc, ◌+◌, ◌-◌, ◌*◌, ◌/◌, ◌%◌, ◌≤◌, ◌<◌, eqb, leb, ltb, length}
use Rattle.std.proofs.Common.{ap, sym, ◌∙◌, arith, eq-eqb, ne_eqb, lt-ltb, le-leb, le-ltb, ltb-true, leb-true}
use Rattle.std.proofs.Math.Bool.{or-true}
use Rattle.std.proofs.lemmas.Bool.{lt-leb}
use Rattle.rules.specs.declared.Value.{Value}
use Rattle.rules.specs.declared.Value.TheVariants.{Star, One, Zero}
use Rattle.rules.specs.declared.Node.{Node}
use Rattle.rules.specs.declared.Node.TheVariants.{None, Leaf, Branch}
use Rattle.rules.specs.definitions.Limits.{variables_most}
use Rattle.rules.specs.definitions.Layout.{branch_mark, variable_step, end_step, set_words, word_bits}
use Rattle.rules.specs.definitions.Sets.{Set, none, has, with}
use Rattle.theory.specs.laws.Sets.{length_none, length_with, has_with}
use Rattle.rules.specs.definitions.Formula.{Assignment}
use Rattle.rules.specs.definitions.Maps.{value_word, node_word, node_of, branch_at, Column, Walk, noting, walk_node, walk_over, walk, value_of, plays, as_bool, Reached, star?}
use Rattle.rules.specs.definitions.Maps.Walk.{ended, broken}
use Rattle.rules.specs.definitions.Maps.Reached.{root, low, high}
use Rattle.rules.specs.statements.Sound.{Falling, Positive, FallingFrom, PositiveFrom, Sound, InRange}

pub branch≢none : {x a b : ℕ} → Branch x a b ≡ None → ⊥
branch≢none e = let z : ◌≡◌ {A = ℕ} 0 1 = cc in omega arith

pub leaf≢none : {v : Value} → Leaf v ≡ None → ⊥
leaf≢none e = let z : ◌≡◌ {A = ℕ} 0 1 = cc in omega arith

pub leaf≢branch : {v : Value} {x a b : ℕ} → Leaf v ≡ Branch x a b → ⊥
leaf≢branch e = let z : ◌≡◌ {A = ℕ} 0 1 = cc in omega arith

-- what is reached from a reached node is reached
pub reached_on : {T : Column} {r i k : ℕ} → Reached T r i → Reached T i k → Reached T r k
reached_on h root = h
reached_on h (low g e) = low (reached_on h g) e
reached_on h (high g e) = high (reached_on h g) e

-- every node of a map is at most its root
pub reached_le : {T : Column} {r i : ℕ} → FallingFrom T r → Reached T r i → i ≤ r
reached_le fall root = omega arith
reached_le fall (low {i = k} {x = x} {a = a} {b = b} h e) = omega (arith, reached_le fall h, fall k x a b h e)
reached_le fall (high {i = k} {x = x} {a = a} {b = b} h e) = omega (arith, reached_le fall h, fall k x a b h e)

-- the nodes reached are at least 1 where the root is
pub reached_positive : {T : Column} {r i : ℕ} → PositiveFrom T r → 0 < r → Reached T r i → 0 < i
reached_positive pos hr root = hr
reached_positive pos hr (low {i = k} {x = x} {a = a} {b = b} h e) = (pos k x a b h e).0
reached_positive pos hr (high {i = k} {x = x} {a = a} {b = b} h e) = (pos k x a b h e).1

-- the map of a reached node is sound too
pub sound_on : {T : Column} {r i : ℕ} → Sound T r → Reached T r i → Sound T i
sound_on S h = record {
  some = λ k g. S.some k (reached_on h g);
  falling = λ k x a b g e. S.falling k x a b (reached_on h g) e;
  positive = λ k x a b g e. S.positive k x a b (reached_on h g) e;
}

-- a map is sound in a column whose branches fall to nodes from 1, none of them none, if its root is not none
pub sound_from : (T : Column) (r : ℕ) → Falling T → Positive T → ((i x a b : ℕ) → T i ≡ Branch x a b → (T a ≢ None) × (T b ≢ None)) → T r ≢ None → Sound T r
sound_from T r fall pos ends top = record { some = some; falling = λ i x a b h e. fall i x a b e; positive = λ i x a b h e. pos i x a b e }
  where
    some : (i : ℕ) → Reached T r i → T i ≢ None
    some i root = top
    some i (low {i = k} {x = x} {a = a} {b = b} h e) = (ends k x a b e).0
    some i (high {i = k} {x = x} {a = a} {b = b} h e) = (ends k x a b e).1

-- two columns that agree on what is reached from r in the first: all of it is reached in the second
pub reached_same : {T U : Column} {r i : ℕ} → ((k : ℕ) → Reached T r k → U k ≡ T k) → Reached T r i → Reached U r i
reached_same same root = root
reached_same same (low {i = k} h e) = low (reached_same same h) (same k h ∙ e)
reached_same same (high {i = k} h e) = high (reached_same same h) (same k h ∙ e)

-- ---- the walk, by the node where it begins
-- a node's walk asks only of smaller numbers
walk_node_below : (s : Assignment) (f g : ℕ → Walk) (i : ℕ) (n : Node) → ((k : ℕ) → k < i → f k ≡ g k) → walk_node s f i n ≡ walk_node s g i n
walk_node_below s f g i None same = refl
walk_node_below s f g i (Leaf v) same = refl
walk_node_below s f g i (Branch x a b) same = by (ltb a i) refl (ltb b i) refl (s x) refl
  where
    by : (p : Bool) → ltb a i ≡ p → (q : Bool) → ltb b i ≡ q → (o : Bool) → s x ≡ o → walk_node s f i (Branch x a b) ≡ walk_node s g i (Branch x a b)
    by true p true q true o = rw (p, q, o, walk_node) (ap (noting x) (same b (ltb-true b i q)))
    by true p true q false o = rw (p, q, o, walk_node) (ap (noting x) (same a (ltb-true a i p)))
    by true p false q o e = rw (p, q, walk_node)
    by false p q e o e' = rw (p, walk_node)

-- any number of nodes past i is enough
walk_over_enough : (T : Column) (s : Assignment) (f g i : ℕ) → i < f → i < g → walk_over f T s i ≡ walk_over g T s i
unfolding walk_over
walk_over_enough T s zero g i p q = absurd (omega arith)
walk_over_enough T s (suc f) zero i p q = absurd (omega arith)
walk_over_enough T s (suc f) (suc g) i p q =
    walk_node_below s (λ k. walk_over f T s k) (λ k. walk_over g T s k) i (T i) (λ k l. walk_over_enough T s f g k (omega arith) (omega arith))

-- the walk from node i is what node i says, the walks from smaller nodes given
pub walk_at : (T : Column) (s : Assignment) (i : ℕ) → walk T s i ≡ walk_node s (walk T s) i (T i)
unfolding walk walk_over
walk_at T s i =
    walk_node_below s (λ k. walk_over i T s k) (walk T s) i (T i) (λ k l. walk_over_enough T s i (suc k) k (omega arith) (omega arith))

pub walk_none : (T : Column) (s : Assignment) (i : ℕ) → T i ≡ None → walk T s i ≡ broken
walk_none T s i e = walk_at T s i ∙ ap (walk_node s (walk T s) i) e

pub walk_leaf : (T : Column) (s : Assignment) (i : ℕ) (v : Value) → T i ≡ Leaf v → walk T s i ≡ ended v i (none set_words)
walk_leaf T s i v e = walk_at T s i ∙ ap (walk_node s (walk T s) i) e

-- from a branch with both ends below it the walk goes on at b where x is 1, else at a
pub walk_branch : (T : Column) (s : Assignment) (i x a b : ℕ) → T i ≡ Branch x a b → a < i → b < i → walk T s i ≡ noting x (walk T s (cond (s x) b a))
walk_branch T s i x a b e p q = walk_at T s i ∙ ap (walk_node s (walk T s) i) e ∙ by (s x) refl
  where
    by : (o : Bool) → s x ≡ o → walk_node s (walk T s) i (Branch x a b) ≡ noting x (walk T s (cond (s x) b a))
    by true o = rw (lt-ltb a i p, lt-ltb b i q, o, walk_node)
    by false o = rw (lt-ltb a i p, lt-ltb b i q, o, walk_node)

value_noting : (x : ℕ) (w : Walk) → value_of (noting x w) ≡ value_of w
value_noting x (ended v k s) = refl
value_noting x broken = refl

pub plays_leaf : (T : Column) (s : Assignment) (i : ℕ) (v : Value) → T i ≡ Leaf v → plays T s i ≡ v
plays_leaf T s i v e = ap value_of (walk_leaf T s i v e)

-- what a branch plays (004, Proposition 18)
pub plays_branch : (T : Column) (s : Assignment) (i x a b : ℕ) → T i ≡ Branch x a b → a < i → b < i → plays T s i ≡ plays T s (cond (s x) b a)
plays_branch T s i x a b e p q = ap value_of (walk_branch T s i x a b e p q) ∙ value_noting x (walk T s (cond (s x) b a))

-- ---- walks that are alike
-- columns that agree on what is reached from r, and assignments that agree on what its branches read, walk alike
pub walk_alike : (T U : Column) (s t : Assignment) (r : ℕ) → ((i : ℕ) → Reached T r i → U i ≡ T i)
    → ((i x a b : ℕ) → Reached T r i → T i ≡ Branch x a b → s x ≡ t x) → walk T s r ≡ walk U t r
walk_alike T U s t r same agree = from (suc r) r (omega arith) root
  where
    node : (i : ℕ) (n : Node) → T i ≡ n → Reached T r i → ((k : ℕ) → k < i → Reached T r k → walk T s k ≡ walk U t k)
        → walk_node s (walk T s) i n ≡ walk_node t (walk U t) i n
    node i None e h below = refl
    node i (Leaf v) e h below = refl
    node i (Branch x a b) e h below = by (ltb a i) refl (ltb b i) refl (t x) refl
      where
        by : (p : Bool) → ltb a i ≡ p → (q : Bool) → ltb b i ≡ q → (o : Bool) → t x ≡ o → walk_node s (walk T s) i (Branch x a b) ≡ walk_node t (walk U t) i (Branch x a b)
        by true p true q true o = rw (p, q, agree i x a b h e, o, walk_node) (ap (noting x) (below b (ltb-true b i q) (high h e)))
        by true p true q false o = rw (p, q, agree i x a b h e, o, walk_node) (ap (noting x) (below a (ltb-true a i p) (low h e)))
        by true p false q o g = rw (p, q, walk_node)
        by false p q g o g' = rw (p, walk_node)

    from : (f i : ℕ) → i < f → Reached T r i → walk T s i ≡ walk U t i
    from zero i l h = absurd (omega arith)
    from (suc f) i l h =
        walk_at T s i
        ∙ node i (T i) refl h (λ k m g. from f k (omega arith) g)
        ∙ ap (walk_node t (walk U t) i) (sym (same i h))
        ∙ sym (walk_at U t i)

-- two columns that agree on what is reached from r give the same walk
pub walk_same : (T U : Column) (s : Assignment) (r : ℕ) → ((i : ℕ) → Reached T r i → U i ≡ T i) → walk T s r ≡ walk U s r
walk_same T U s r same = walk_alike T U s s r same (λ i x a b h e. refl)

-- two assignments that agree on what the map's branches read give the same walk
pub walk_agree : (T : Column) (s t : Assignment) (r : ℕ) → ((i x a b : ℕ) → Reached T r i → T i ≡ Branch x a b → s x ≡ t x) → walk T s r ≡ walk T t r
walk_agree T s t r agree = walk_alike T T s t r (λ i h. refl) agree

-- the walk of a sound map ends at a leaf of it
pub walk_ends : (T : Column) (s : Assignment) (r : ℕ) → Sound T r → (v : Value) × (k : ℕ) × (S : Set) × (walk T s r ≡ ended v k S) × Reached T r k × (T k ≡ Leaf v)
walk_ends T s r S = from (suc r) r (omega arith) root
  where
    Ends : ℕ → Type 0
    Ends i = (v : Value) × (k : ℕ) × (R : Set) × (walk T s i ≡ ended v k R) × Reached T r k × (T k ≡ Leaf v)

    node : (i : ℕ) (n : Node) → T i ≡ n → Reached T r i → ((k : ℕ) → k < i → Reached T r k → Ends k) → Ends i
    node i None e h below = absurd (S.some i h e)
    node i (Leaf v) e h below = (v, i, none set_words, walk_leaf T s i v e, h, e)
    node i (Branch x a b) e h below = by (s x) refl
      where
        on : (k : ℕ) → walk T s i ≡ noting x (walk T s k) → Ends k → Ends i
        on k g w = (w.0, w.1, with w.2 x, g ∙ ap (noting x) w.3, w.4, w.5)

        f : (a < i) × (b < i)
        f = S.falling i x a b h e

        by : (o : Bool) → s x ≡ o → Ends i
        by true o = on b (rw o at (walk_branch T s i x a b e f.0 f.1)) (below b f.1 (high h e))
        by false o = on a (rw o at (walk_branch T s i x a b e f.0 f.1)) (below a f.0 (low h e))

    from : (f i : ℕ) → i < f → Reached T r i → Ends i
    from zero i l h = absurd (omega arith)
    from (suc f) i l h = node i (T i) refl h (λ k m g. from f k (omega arith) g)

-- ---- what a walk reads decides it
ended_inj : {v w : Value} {k l : ℕ} {S R : Set} → ended v k S ≡ ended w l R → (v ≡ w) × (k ≡ l) × (S ≡ R)
ended_inj e = ((cc), (cc), (cc))

broken≢ended : {v : Value} {k : ℕ} {S : Set} → broken ≡ ended v k S → ⊥
broken≢ended e = let z : ◌≡◌ {A = ℕ} 0 1 = cc in omega arith

-- a walk that ends comes from a node that is a leaf, or a branch with both ends below it
falls_where_ended : (T : Column) (s : Assignment) (i x a b : ℕ) (v : Value) (k : ℕ) (S : Set) → T i ≡ Branch x a b → walk T s i ≡ ended v k S → (a < i) × (b < i)
falls_where_ended T s i x a b v k S e w = by (ltb a i) refl (ltb b i) refl
  where
    from : walk_node s (walk T s) i (Branch x a b) ≡ ended v k S
    from = sym (ap (walk_node s (walk T s) i) e) ∙ sym (walk_at T s i) ∙ w

    by : (p : Bool) → ltb a i ≡ p → (q : Bool) → ltb b i ≡ q → (a < i) × (b < i)
    by true p true q = (ltb-true a i p, ltb-true b i q)
    by true p false q = absurd (broken≢ended (rw (p, q, walk_node) at from))
    by false p q g = absurd (broken≢ended (rw (p, walk_node) at from))

-- an assignment that agrees with s on the set that the walk returns ends at the same leaf, with the same set
pub walk_read : (T : Column) (s t : Assignment) (r : ℕ) (v : Value) (k : ℕ) (S : Set)
    → ((i x a b : ℕ) → Reached T r i → T i ≡ Branch x a b → (1 ≤ x) × (x ≤ word_bits * set_words))
    → walk T s r ≡ ended v k S → ((x : ℕ) → has S x ≡ true → s x ≡ t x) → walk T t r ≡ ended v k S
walk_read T s t r v k S range e agree = (from (suc r) r (omega arith) root v k S e).1 agree
  where
    -- the set has its words, and agreement on it gives the same end
    Read : ℕ → Type 0
    Read i = (v : Value) (k : ℕ) (S : Set) → walk T s i ≡ ended v k S
        → (length S ≡ set_words) × (((x : ℕ) → has S x ≡ true → s x ≡ t x) → walk T t i ≡ ended v k S)

    node : (i : ℕ) (n : Node) → T i ≡ n → Reached T r i → ((k : ℕ) → k < i → Reached T r k → Read k) → Read i
    node i None g h below v k S e = absurd (broken≢ended (sym (walk_none T s i g) ∙ e))
    node i (Leaf w) g h below v k S e =
        let z = ended_inj (sym (walk_leaf T s i w g) ∙ e) in
        (ap length (sym z.2) ∙ length_none set_words, λ _. walk_leaf T t i w g ∙ sym (walk_leaf T s i w g) ∙ e)
    node i (Branch x a b) g h below v k S e = on (walk T s (cond (s x) b a)) refl (next (s x))
      where
        f : (a < i) × (b < i)
        f = falls_where_ended T s i x a b v k S g e

        next : (c : Bool) → Read (cond c b a)
        next true = below b f.1 (high h g)
        next false = below a f.0 (low h g)

        on : (w : Walk) → walk T s (cond (s x) b a) ≡ w → Read (cond (s x) b a)
            → (length S ≡ set_words) × (((x : ℕ) → has S x ≡ true → s x ≡ t x) → walk T t i ≡ ended v k S)
        on broken o R = absurd (broken≢ended (sym (walk_branch T s i x a b g f.0 f.1 ∙ ap (noting x) o) ∙ e))
        on (ended w l A) o R = (ap length (sym z.2) ∙ length_with A x ∙ (R w l A o).0, same)
          where
            end : ended w l (with A x) ≡ ended v k S
            end = sym (walk_branch T s i x a b g f.0 f.1 ∙ ap (noting x) o) ∙ e

            z : (w ≡ v) × (l ≡ k) × (with A x ≡ S)
            z = ended_inj end

            words : length A ≡ set_words
            words = (R w l A o).0

            member : (y : ℕ) → has S y ≡ (eqb y x || has A y)
            member y = ap (λ (B : Set). has B y) (sym z.2) ∙ has_with A x y (range i x a b h g).0 (rw words (range i x a b h g).1)

            same : ((y : ℕ) → has S y ≡ true → s y ≡ t y) → walk T t i ≡ ended v k S
            same agree =
                walk_branch T t i x a b g f.0 f.1
                ∙ ap (λ (c : Bool). noting x (walk T t (cond c b a))) (sym here)
                ∙ ap (noting x) ((R w l A o).1 (λ y m. agree y (member y ∙ rw (m, or-true))))
                ∙ end
              where
                here : s x ≡ t x
                here = agree x (member x ∙ rw (eq-eqb x x refl))

    from : (f i : ℕ) → i < f → Reached T r i → Read i
    from zero i l h = absurd (omega arith)
    from (suc f) i l h = node i (T i) refl h (λ k m g. from f k (omega arith) g)

-- a branch's word holds its numbers
branch_back : (x a b w : ℕ) → 1 ≤ x → x ≤ variables_most → 1 ≤ a → a ≤ end_step → 1 ≤ b → b ≤ end_step
    → w ≡ branch_mark + (x - 1) * variable_step + (a - 1) * end_step + (b - 1) → branch_at (w - branch_mark) ≡ Branch x a b
branch_back x a b w hx hx' ha ha' hb hb' e = rw (ex, ea, eb)
  where
    ex : (w - branch_mark) / variable_step + 1 ≡ x
    ex = omega arith

    ea : (w - branch_mark) / end_step % end_step + 1 ≡ a
    ea = omega arith

    eb : (w - branch_mark) % end_step + 1 ≡ b
    eb = omega arith

-- a word is below 2³⁰ + 2²⁶, so that it fits 32 bits
pub node_word_fits : (n : Node) → InRange n → node_word n < branch_mark + variables_most * variable_step
unfolding node_word
node_word_fits None h = omega arith
node_word_fits (Leaf Star) h = omega arith
node_word_fits (Leaf One) h = omega arith
node_word_fits (Leaf Zero) h = omega arith
node_word_fits (Branch x a b) h = omega arith

-- the words that are none of star, one and zero: below the branches, a branch, past the branches
pub node_of_low : (w : ℕ) → w ≢ 1 → w ≢ 2 → w ≢ 3 → w < branch_mark → node_of w ≡ None
unfolding node_of
node_of_low w n₁ n₂ n₃ h = rw (ne_eqb w 1 n₁, ne_eqb w 2 n₂, ne_eqb w 3 n₃, lt-leb branch_mark w h, node_of)

pub node_of_branch : (w : ℕ) → branch_mark ≤ w → w < branch_mark + variables_most * variable_step → node_of w ≡ branch_at (w - branch_mark)
unfolding node_of
node_of_branch w l h =
    rw (
      ne_eqb w 1 (λ z. omega arith),
      ne_eqb w 2 (λ z. omega arith),
      ne_eqb w 3 (λ z. omega arith),
      le-leb branch_mark w l,
      lt-ltb w (branch_mark + variables_most * variable_step) h,
      node_of,
    )

pub node_of_high : (w : ℕ) → branch_mark + variables_most * variable_step ≤ w → node_of w ≡ None
unfolding node_of
node_of_high w h =
    rw (
      ne_eqb w 1 (λ z. omega arith),
      ne_eqb w 2 (λ z. omega arith),
      ne_eqb w 3 (λ z. omega arith),
      le-leb branch_mark w (omega arith),
      le-ltb w (branch_mark + variables_most * variable_step) h,
      node_of,
    )

-- a node comes back from its word
pub node_of_word : (n : Node) → InRange n → node_of (node_word n) ≡ n
unfolding node_word node_of
node_of_word None h = refl
node_of_word (Leaf Star) h = refl
node_of_word (Leaf One) h = refl
node_of_word (Leaf Zero) h = refl
node_of_word (Branch x a b) h = at (node_word (Branch x a b)) refl
  where
    at : (w : ℕ) → w ≡ branch_mark + (x - 1) * variable_step + (a - 1) * end_step + (b - 1) → node_of w ≡ Branch x a b
    at w e =
        node_of_branch w (omega arith) (omega arith)
        ∙ branch_back x a b w h.0.0 h.0.1 h.1.0 h.1.1 h.2.0 h.2.1 e

-- what a word stands for is in range
pub node_of_range : (w : ℕ) → InRange (node_of w)
unfolding node_of
node_of_range w = by (eqb w 1) refl (eqb w 2) refl (eqb w 3) refl (leb branch_mark w) refl (ltb w (branch_mark + variables_most * variable_step)) refl
  where
    by : (p : Bool) → eqb w 1 ≡ p → (q : Bool) → eqb w 2 ≡ q → (o : Bool) → eqb w 3 ≡ o → (l : Bool) → leb branch_mark w ≡ l
        → (u : Bool) → ltb w (branch_mark + variables_most * variable_step) ≡ u → InRange (node_of w)
    by true p q e o f l g u h = rw (p, node_of) tt
    by false p true q o f l g u h = rw (p, q, node_of) tt
    by false p false q true o l g u h = rw (p, q, o, node_of) tt
    by false p false q false o false l u h = rw (p, q, o, l, node_of) tt
    by false p false q false o true l false u = rw (p, q, o, l, u, node_of) tt
    by false p false q false o true l true u =
        let z : w < branch_mark + variables_most * variable_step = ltb-true _ _ u in
        let y : branch_mark ≤ w = leb-true _ _ l in
        rw (p, q, o, l, u, node_of) (omega arith)

-- one star leaf is the word 1
pub star_word : (w : ℕ) → star? (node_of w) ≡ eqb w 1
unfolding node_of
star_word w = by (eqb w 1) refl (eqb w 2) refl (eqb w 3) refl (leb branch_mark w && ltb w (branch_mark + variables_most * variable_step)) refl
  where
    by : (p : Bool) → eqb w 1 ≡ p → (q : Bool) → eqb w 2 ≡ q → (o : Bool) → eqb w 3 ≡ o
        → (l : Bool) → (leb branch_mark w && ltb w (branch_mark + variables_most * variable_step)) ≡ l → star? (node_of w) ≡ eqb w 1
    by true p q e o f l g = rw (p, node_of)
    by false p true q o f l g = rw (p, q, node_of)
    by false p false q true o l g = rw (p, q, o, node_of)
    by false p false q false o false l = rw (p, q, o, l, node_of)
    by false p false q false o true l = rw (p, q, o, l, node_of)

-- ---- demand 3 plays "no value" as 0: the burst is sent where a leaf's word is 2, one
pub sent : (v : Value) → eqb (value_word v) 2 ≡ as_bool v
sent Star = refl
sent One = refl
sent Zero = refl
