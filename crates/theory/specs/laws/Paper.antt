-- The merge map of 004 that stands at a node of a column, and what it shares with the column.
use Rattle.std.specs.Prelude.{◌≡◌, Bool, true, false, cond, ◌⊎◌, ◌↔◌, ◌≢◌}
use Rattle.std.proofs.Math.Path.{refl, ap}
use Rattle.std.proofs.Common.{ap₂, sym, ◌∙◌, subst, inl, inr, arith, eq-eqb, ne_eqb}
use Rattle.std.proofs.lemmas.Bool.{false≢true}
use Rattle.std.proofs.Math.Logic.{by_cases}
use Prim.Native.Nat.{ℕ, zero, suc, ◌<◌}
use Rattle.std.proofs.Math.Decide.{ℕ_discrete}
use Rattle.rules.specs.declared.Value.{Value}
use Rattle.rules.specs.declared.Value.TheVariants.{Star, One, Zero}
use Rattle.rules.specs.declared.Node.{Node}
use Rattle.rules.specs.declared.Node.TheVariants.{None, Leaf, Branch}
use Rattle.rules.specs.definitions.Formula.{Assignment}
use Rattle.rules.specs.definitions.Maps.{Column, plays, Reached, star?, renamed, Isomorphic}
use Rattle.rules.specs.definitions.Maps.Reached.{root, low, high}
use Rattle.rules.specs.definitions.Paper.{Map, Domain, MergeMap, computed_at, computed_in, computed, Isomorphism, Consistent, single, Trivial, else, merge}
use Rattle.rules.specs.statements.Sound.{FallingFrom, Sound}
use Rattle.theory.specs.laws.Maps.{branch≢none, leaf≢none, leaf≢branch, reached_on, reached_le, sound_on, plays_leaf, plays_branch}
use Rattle.rules.specs.statements.Held.{map_of, map_over, map_at}

-- where columns agree on what is reached, so do their maps, whatever the number of nodes allowed for
module _ (T U : Column) (r : ℕ) (fall : FallingFrom T r) (same : (k : ℕ) → Reached T r k → U k ≡ T k) where
  over_same : (f g i : ℕ) → Reached T r i → i < f → i < g → map_over f T i ≡ map_over g U i
  unfolding map_over
  over_same zero g i h p q = absurd (omega arith)
  over_same (suc f) zero i h p q = absurd (omega arith)
  over_same (suc f) (suc g) i h p q = by (T i) refl (over_same f g)
    where
      by : (n : Node) → T i ≡ n → ((k : ℕ) → Reached T r k → k < f → k < g → map_over f T k ≡ map_over g U k)
          → map_of (λ k. map_over f T k) i (T i) ≡ map_of (λ k. map_over g U k) i (U i)
      by None e ih = rw (same i h, e)
      by (Leaf v) e ih = rw (same i h, e)
      by (Branch x a b) e ih =
          let l = fall i x a b h e in
          rw (same i h, e) (ap₂ (λ (M N : Map). merge M N i x) (ih a (low h e) (omega arith) (omega arith)) (ih b (high h e) (omega arith) (omega arith)))

  -- columns that agree on a map's nodes have the same map there
  pub map_same : map_at T r ≡ map_at U r
  unfolding map_at
  map_same = over_same (suc r) (suc r) r root (omega arith) (omega arith)

pub map_leaf : (T : Column) (r : ℕ) (v : Value) → T r ≡ Leaf v → map_at T r ≡ single r v
unfolding map_at map_over
map_leaf T r v e = rw e

pub map_branch : (T : Column) (r x a b : ℕ) → FallingFrom T r → T r ≡ Branch x a b → map_at T r ≡ merge (map_at T a) (map_at T b) r x
unfolding map_at map_over
map_branch T r x a b fall e =
    let l = fall r x a b root e in
    rw e (ap₂ (λ (M N : Map). merge M N r x)
    (over_same T T r fall (λ k h. refl) r (suc a) a (low root e) (omega arith) (omega arith))
    (over_same T T r fall (λ k h. refl) r (suc b) b (high root e) (omega arith) (omega arith)))

-- ---- a map stands in a column at r: its nodes are those reached from r, as they are there
pub record Stands (T : Column) (r : ℕ) (M : Map) : Type 0 where
  pub greatest : M.greatest ≡ r
  pub nodes : (k : ℕ) → Domain M k → T k ≡ M.node k
  pub all : (k : ℕ) → Domain M k → Reached T r k
  pub only : (k : ℕ) → Reached T r k → Domain M k

-- the one node of a single map
single_at : (i : ℕ) (v : Value) → (single i v).node i ≡ Leaf v
single_at i v = rw (eq-eqb i i refl)

single_domain : (i k : ℕ) (v : Value) → Domain (single i v) k → k ≡ i
single_domain i k v d = by_cases (ℕ_discrete k i) (λ e. e) (λ n. absurd (d (rw (ne_eqb k i n))))

-- from a leaf only the leaf is reached
reached_leaf : (T : Column) (r : ℕ) (v : Value) → T r ≡ Leaf v → (k : ℕ) → Reached T r k → k ≡ r
reached_leaf T r v e k root = refl
reached_leaf T r v e k (low {i = i} h f) = absurd (leaf≢branch (sym e ∙ ap T (sym (reached_leaf T r v e i h)) ∙ f))
reached_leaf T r v e k (high {i = i} h f) = absurd (leaf≢branch (sym e ∙ ap T (sym (reached_leaf T r v e i h)) ∙ f))

stands_single : (T : Column) (r : ℕ) (v : Value) → T r ≡ Leaf v → Stands T r (single r v)
stands_single T r v e = record {
  greatest = refl;
  nodes = λ k d. let p = single_domain r k v d in ap T p ∙ e ∙ sym (ap (single r v).node p ∙ single_at r v);
  all = λ k d. subst (Reached T r) (sym (single_domain r k v d)) root;
  only = λ k h o. leaf≢none (sym (single_at r v) ∙ ap (single r v).node (sym (reached_leaf T r v e k h)) ∙ o);
}

else_first : (m n : Node) → m ≢ None → else m n ≡ m
else_first None n h = absurd (h refl)
else_first (Leaf v) n h = refl
else_first (Branch x a b) n h = refl

else_second : (m n : Node) → (m ≢ None → m ≡ n) → else m n ≡ n
else_second None n h = refl
else_second (Leaf v) n h = h leaf≢none
else_second (Branch x a b) n h = h branch≢none

-- what the two have is all that the merge has besides its new node
else_cases : (m n : Node) → else m n ≢ None → ((m ≢ None) × (else m n ≡ m)) ⊎ ((n ≢ None) × (else m n ≡ n))
else_cases None n d = inr (d, refl)
else_cases (Leaf v) n d = inl (d, refl)
else_cases (Branch x a b) n d = inl (d, refl)

module _ (T : Column) (r t : ℕ) (M N : Map) (sM : Stands T r M) (sN : Stands T t N) where
  -- two maps that stand in one column are consistent
  pub stands_consistent : Consistent M N
  stands_consistent i d e = sym (sM.nodes i d) ∙ sN.nodes i e

  -- the merge stands where its branch stands above both
  module _ (n x : ℕ) (e : T n ≡ Branch x r t) (under_r : (k : ℕ) → Reached T r k → k < n) (under_t : (k : ℕ) → Reached T t k → k < n) where
    merge_top : (merge M N n x).node n ≡ Branch x r t
    merge_top = rw (eq-eqb n n refl, sM.greatest, sN.greatest)

    merge_below : (k : ℕ) → (k ≡ n → ⊥) → (merge M N n x).node k ≡ else (M.node k) (N.node k)
    merge_below k h = rw (ne_eqb k n h)

    merge_first : (k : ℕ) → Domain M k → (merge M N n x).node k ≡ M.node k
    merge_first k d = merge_below k (λ p. omega (arith, under_r k (sM.all k d))) ∙ else_first (M.node k) (N.node k) d

    merge_second : (k : ℕ) → Domain N k → (merge M N n x).node k ≡ N.node k
    merge_second k d = merge_below k (λ p. omega (arith, under_t k (sN.all k d))) ∙ else_second (M.node k) (N.node k) (λ c. stands_consistent k c d)

    merge_origin : (k : ℕ) → Domain (merge M N n x) k
        → (k ≡ n) ⊎ ((Domain M k × ((merge M N n x).node k ≡ M.node k)) ⊎ (Domain N k × ((merge M N n x).node k ≡ N.node k)))
    merge_origin k d = by_cases (ℕ_discrete k n) (λ p. inl p) (λ p. inr (by p (else_cases (M.node k) (N.node k) (λ o. d (merge_below k p ∙ o)))))
      where
        by : (k ≡ n → ⊥)
            → ((M.node k ≢ None) × (else (M.node k) (N.node k) ≡ M.node k)) ⊎ ((N.node k ≢ None) × (else (M.node k) (N.node k) ≡ N.node k))
            → (Domain M k × ((merge M N n x).node k ≡ M.node k)) ⊎ (Domain N k × ((merge M N n x).node k ≡ N.node k))
        by p (inl (c, f)) = inl (c, merge_below k p ∙ f)
        by p (inr (c, f)) = inr (c, merge_below k p ∙ f)

    -- what is reached from the branch is the branch, or reached from one of its ends
    from_top : (k : ℕ) → Reached T n k → (k ≡ n) ⊎ (Reached T r k ⊎ Reached T t k)
    from_top k root = inl refl
    from_top k (low {i = i} {x = y} {a = a} {b = b} h f) = by (from_top i h)
      where
        by : (i ≡ n) ⊎ (Reached T r i ⊎ Reached T t i) → (a ≡ n) ⊎ (Reached T r a ⊎ Reached T t a)
        by (inl p) = let z : r ≡ a = cc (ap T p) in inr (inl (subst (Reached T r) z root))
        by (inr (inl o)) = inr (inl (low o f))
        by (inr (inr o)) = inr (inr (low o f))
    from_top k (high {i = i} {x = y} {a = a} {b = b} h f) = by (from_top i h)
      where
        by : (i ≡ n) ⊎ (Reached T r i ⊎ Reached T t i) → (b ≡ n) ⊎ (Reached T r b ⊎ Reached T t b)
        by (inl p) = let z : t ≡ b = cc (ap T p) in inr (inr (subst (Reached T t) z root))
        by (inr (inl o)) = inr (inl (high o f))
        by (inr (inr o)) = inr (inr (high o f))

    pub stands_merge : Stands T n (merge M N n x)
    stands_merge = record { greatest = refl; nodes = λ k d. nodes k (merge_origin k d); all = λ k d. all k (merge_origin k d); only = λ k h. only k (from_top k h) }
      where
        nodes : (k : ℕ) → (k ≡ n) ⊎ ((Domain M k × ((merge M N n x).node k ≡ M.node k)) ⊎ (Domain N k × ((merge M N n x).node k ≡ N.node k)))
            → T k ≡ (merge M N n x).node k
        nodes k (inl p) = ap T p ∙ e ∙ sym (ap (merge M N n x).node p ∙ merge_top)
        nodes k (inr (inl (d, f))) = sM.nodes k d ∙ sym f
        nodes k (inr (inr (d, f))) = sN.nodes k d ∙ sym f

        all : (k : ℕ) → (k ≡ n) ⊎ ((Domain M k × ((merge M N n x).node k ≡ M.node k)) ⊎ (Domain N k × ((merge M N n x).node k ≡ N.node k)))
            → Reached T n k
        all k (inl p) = subst (Reached T n) (sym p) root
        all k (inr (inl (d, f))) = reached_on (low root e) (sM.all k d)
        all k (inr (inr (d, f))) = reached_on (high root e) (sN.all k d)

        only : (k : ℕ) → (k ≡ n) ⊎ (Reached T r k ⊎ Reached T t k) → Domain (merge M N n x) k
        only k (inl p) o = branch≢none (sym merge_top ∙ ap (merge M N n x).node (sym p) ∙ o)
        only k (inr (inl h)) o = sM.only k h (sym (merge_first k (sM.only k h)) ∙ o)
        only k (inr (inr h)) o = sN.only k h (sym (merge_second k (sN.only k h)) ∙ o)

-- the map at a node of a sound map stands there
stands_below : (T : Column) (f r : ℕ) → r < f → Sound T r → Stands T r (map_at T r)
stands_below T zero r l S = absurd (omega arith)
stands_below T (suc f) r l S = by (T r) refl (stands_below T f)
  where
    by : (n : Node) → T r ≡ n → ((k : ℕ) → k < f → Sound T k → Stands T k (map_at T k)) → Stands T r (map_at T r)
    by None e ih = absurd (S.some r root e)
    by (Leaf v) e ih = rw (map_leaf T r v e) (stands_single T r v e)
    by (Branch x a b) e ih = rw (map_branch T r x a b S.falling e)
        (stands_merge T a b (map_at T a) (map_at T b) (ih a (omega (arith, falls)) Sa) (ih b (omega (arith, falls)) Sb) r x e
        (λ k h. omega (arith, falls, reached_le Sa.falling h)) (λ k h. omega (arith, falls, reached_le Sb.falling h)))
      where
        falls : (a < r) × (b < r)
        falls = S.falling r x a b root e

        Sa : Sound T a
        Sa = sound_on S (low root e)

        Sb : Sound T b
        Sb = sound_on S (high root e)

pub stands : (T : Column) (r : ℕ) → Sound T r → Stands T r (map_at T r)
stands T r S = stands_below T (suc r) r (omega arith) S

-- ---- what a map that stands in a column is
module _ (T : Column) (r : ℕ) (M : Map) (sM : Stands T r M) where
  -- Definition 6: over the variables of the branches reached
  pub stands_merge_map : (X : ℕ → Type 0) → Sound T r → ((i x a b : ℕ) → Reached T r i → T i ≡ Branch x a b → X x) → MergeMap X M
  stands_merge_map X S over = record {
    bounded = λ i d. omega (arith, sM.greatest, reached_le S.falling (sM.all i d));
    inhabited = subst (Domain M) (sym sM.greatest) (sM.only r root);
    triples = triples;
  }
    where
      triples : (i x a b : ℕ) → M.node i ≡ Branch x a b → X x × ((a < i) × Domain M a) × ((b < i) × Domain M b)
      triples i x a b e = (over i x a b h f, (l.0, sM.only a (low h f)), (l.1, sM.only b (high h f)))
        where
          d : Domain M i
          d o = branch≢none (sym e ∙ o)

          h : Reached T r i
          h = sM.all i d

          f : T i ≡ Branch x a b
          f = sM.nodes i d ∙ e

          l : (a < i) × (b < i)
          l = S.falling i x a b h f

  -- Definition 7: it computes what the column plays
  pub stands_computed : Sound T r → (s : Assignment) → computed M s ≡ plays T s r
  unfolding computed computed_in
  stands_computed S s = ap (λ (n : ℕ). computed_in (suc n) M s n) sM.greatest ∙ go (suc r) r root (omega arith)
    where
      at_node : (f i : ℕ) → Reached T r i → ((k : ℕ) → Reached T r k → k < f → computed_in f M s k ≡ plays T s k) → i < suc f → (n : Node) → T i ≡ n
          → computed_at s (λ k. computed_in f M s k) (M.node i) ≡ plays T s i
      at_node f i h ih l None e = absurd (S.some i h e)
      at_node f i h ih l (Leaf v) e = rw (← sM.nodes i (sM.only i h), e) (sym (plays_leaf T s i v e))
      at_node f i h ih l (Branch x a b) e = rw (← sM.nodes i (sM.only i h), e) (pick (s x) refl)
        where
          falls : (a < i) × (b < i)
          falls = S.falling i x a b h e

          pick : (c : Bool) → s x ≡ c → computed_in f M s (cond (s x) b a) ≡ plays T s i
          pick true p = rw p (ih b (high h e) (omega (arith, falls)) ∙ sym (plays_branch T s i x a b e falls.0 falls.1 ∙ rw p))
          pick false p = rw p (ih a (low h e) (omega (arith, falls)) ∙ sym (plays_branch T s i x a b e falls.0 falls.1 ∙ rw p))

      go : (f i : ℕ) → Reached T r i → i < f → computed_in f M s i ≡ plays T s i
      go zero i h l = absurd (omega arith)
      go (suc f) i h l = at_node f i h (go f) l (T i) refl

  -- Definition 11: it is trivial where its root is a star leaf
  pub stands_trivial : Trivial M ↔ (star? (T r) ≡ true)
  stands_trivial = (forth, λ e. back (star_leaf (T r) e))
    where
      unnamed : (f : ℕ → ℕ) (n : Node) (v : Value) → Leaf v ≡ renamed f n → n ≡ Leaf v
      unnamed f None v e = absurd (leaf≢none e)
      unnamed f (Leaf w) v e = sym e
      unnamed f (Branch x a b) v e = absurd (leaf≢branch e)

      forth : Trivial M → star? (T r) ≡ true
      forth I = ap star? (sM.nodes r d ∙ unnamed I.f (M.node r) Star (sym (single_at 1 Star) ∙ ap (single 1 Star).node (sym (single_domain 1 (I.f r) Star (I.into r d))) ∙ I.alike r d))
        where
          d : Domain M r
          d = sM.only r root

      star_leaf : (n : Node) → star? n ≡ true → n ≡ Leaf Star
      star_leaf None e = absurd (false≢true e)
      star_leaf (Leaf Star) e = refl
      star_leaf (Leaf One) e = absurd (false≢true e)
      star_leaf (Leaf Zero) e = absurd (false≢true e)
      star_leaf (Branch x a b) e = absurd (false≢true e)

      back : T r ≡ Leaf Star → Trivial M
      back e = record {
        f = λ i. 1;
        inverse = λ k. r;
        into = λ i d o. leaf≢none o;
        back = λ k d. sM.only r root;
        inverse_f = λ i d. sym (reached_leaf T r Star e i (sM.all i d));
        f_inverse = λ k d. sym (single_domain 1 k Star d);
        alike = λ i d. ap (renamed (λ i. 1)) (sym (ap T (reached_leaf T r Star e i (sM.all i d)) ∙ e) ∙ sM.nodes i d);
      }

-- Definition 8: isomorphic maps of 004 are isomorphic maps of the columns where they stand
module _ (T : Column) (r : ℕ) (M : Map) (sM : Stands T r M) (U : Column) (t : ℕ) (N : Map) (sN : Stands U t N) where
  pub stands_isomorphic : Isomorphism M N ↔ Isomorphic T r U t
  stands_isomorphic = (forth, back)
    where
      forth : Isomorphism M N → Isomorphic T r U t
      forth I = record {
        to = I.f;
        from = I.inverse;
        into = λ i h. sN.all _ (I.into i (sM.only i h));
        back = λ k h. sM.all _ (I.back k (sN.only k h));
        from_to = λ i h. I.inverse_f i (sM.only i h);
        to_from = λ k h. I.f_inverse k (sN.only k h);
        alike = λ i h. let d = sM.only i h in sN.nodes _ (I.into i d) ∙ I.alike i d ∙ ap (renamed I.f) (sym (sM.nodes i d));
      }

      back : Isomorphic T r U t → Isomorphism M N
      back I = record {
        f = I.to;
        inverse = I.from;
        into = λ i d. sN.only _ (I.into i (sM.all i d));
        back = λ k d. sM.only _ (I.back k (sN.all k d));
        inverse_f = λ i d. I.from_to i (sM.all i d);
        f_inverse = λ k d. I.to_from k (sN.all k d);
        alike = λ i d. sym (sN.nodes _ (sN.only _ (I.into i (sM.all i d)))) ∙ I.alike i (sM.all i d) ∙ ap (renamed I.to) (sM.nodes i d);
      }
