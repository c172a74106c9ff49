-- Isomorphic maps: their roots are paired, they play the same (004, Proposition 9), and the test of one falling pass decides it.
use Rattle.std.specs.Prelude.{◌≡◌, Bool, cond, ◌&&◌, ◌≢◌, ◌↔◌}
use Rattle.std.proofs.Math.Path.{refl, ap, sym}
use Rattle.std.proofs.Common.{◌∙◌, subst, true≢false}
use Rattle.std.proofs.Math.Bool.{true, false}
use Rattle.std.proofs.Math.Logic.{by_cases}
use Prim.Native.Nat.{ℕ, zero, suc, ◌<◌}
use native.Mathlib.Omega.{arith}
use Rattle.std.proofs.Math.Decide.{ℕ_discrete}
use Rattle.std.proofs.Math.Dec.{eqb}
use borrow.Author.Tests.{eq-eqb, ne_eqb, eqb-true, eqb-false}
use Rattle.rules.specs.declared.Value.{Value}
use Rattle.rules.specs.declared.Value.TheVariants.{Star, One, Zero}
use Rattle.rules.specs.declared.Node.{Node}
use Rattle.rules.specs.declared.Node.TheVariants.{None, Leaf, Branch}
use Rattle.rules.specs.definitions.Formula.{Assignment}
use Rattle.theory.specs.laws.Sets.{and_left, and_right}
use Rattle.rules.specs.definitions.Maps.{Column, value_of, plays, Reached, renamed, Isomorphic}
use Rattle.rules.specs.definitions.Comparing.{Pairing, put, pair, same_value, compare, visit, pass, whole, isomorphic}
use Rattle.rules.specs.definitions.Maps.Reached.{root, low, high}
use Rattle.rules.specs.definitions.Comparing.Pairing.{clash, pairs}
use Rattle.rules.specs.statements.Sound.{FallingFrom, PositiveFrom, Sound}
use Rattle.theory.specs.laws.Maps.{leaf≢branch, branch≢none, reached_le, walk_none, plays_leaf, plays_branch}

-- ---- what isomorphic maps have in common
-- a renamed node that is a branch was one
unrenamed : (f : ℕ → ℕ) (n : Node) (x c d : ℕ) → renamed f n ≡ Branch x c d → (a : ℕ) × (b : ℕ) × (n ≡ Branch x a b) × (f a ≡ c) × (f b ≡ d)
unrenamed f None x c d e = absurd (branch≢none (sym e))
unrenamed f (Leaf v) x c d e = absurd (leaf≢branch e)
unrenamed f (Branch y a b) x c d e = (a, b, (cc), (cc), (cc))

module _ (T : Column) (r : ℕ) (U : Column) (t : ℕ) (fallT : FallingFrom T r) (iso : Isomorphic T r U t) where
  -- a branch of U is the partner of a branch of T
  parent : (p x c d : ℕ) → Reached U t p → U p ≡ Branch x c d → (a : ℕ) × (b : ℕ) × (T (iso.from p) ≡ Branch x a b) × (iso.to a ≡ c) × (iso.to b ≡ d)
  parent p x c d h e = unrenamed iso.to (T (iso.from p)) x c d (sym (iso.alike (iso.from p) (iso.back p h)) ∙ ap U (iso.to_from p h) ∙ e)

  -- the pairing is one-to-one
  pub injective : (i k : ℕ) → Reached T r i → Reached T r k → iso.to i ≡ iso.to k → i ≡ k
  injective i k h g e = cc (iso.from_to i h, iso.from_to k g)

  root_at : (k : ℕ) → Reached U t k → k ≡ iso.to r → iso.to r ≡ t
  root_at k root e = sym e
  root_at k (low {i = p} {x = x} {a = c} {b = d} h e) q =
      absurd (omega (arith, reached_le fallT (iso.back p h), fallT _ _ _ _ (iso.back p h) u.2, same))
    where
      u : (a : ℕ) × (b : ℕ) × (T (iso.from p) ≡ Branch x a b) × (iso.to a ≡ c) × (iso.to b ≡ d)
      u = parent p x c d h e

      same : u.0 ≡ r
      same = injective u.0 r (low (iso.back p h) u.2) root (u.3 ∙ q)
  root_at k (high {i = p} {x = x} {a = c} {b = d} h e) q =
      absurd (omega (arith, reached_le fallT (iso.back p h), fallT _ _ _ _ (iso.back p h) u.2, same))
    where
      u : (a : ℕ) × (b : ℕ) × (T (iso.from p) ≡ Branch x a b) × (iso.to a ≡ c) × (iso.to b ≡ d)
      u = parent p x c d h e

      same : u.1 ≡ r
      same = injective u.1 r (high (iso.back p h) u.2) root (u.4 ∙ q)

  pub roots_paired : iso.to r ≡ t
  roots_paired = root_at (iso.to r) (iso.into r root) refl

  -- partners play the same
  partners_play : FallingFrom U t → (s : Assignment) (n i : ℕ) → i < n → Reached T r i → plays T s i ≡ plays U s (iso.to i)
  partners_play fallU s zero i l h = absurd (omega arith)
  partners_play fallU s (suc n) i l h = at (T i) refl (partners_play fallU s n)
    where
      partner : (m : Node) → T i ≡ m → U (iso.to i) ≡ renamed iso.to m
      partner m e = iso.alike i h ∙ ap (renamed iso.to) e

      at : (m : Node) → T i ≡ m → ((k : ℕ) → k < n → Reached T r k → plays T s k ≡ plays U s (iso.to k)) → plays T s i ≡ plays U s (iso.to i)
      at None e ih = ap value_of (walk_none T s i e) ∙ sym (ap value_of (walk_none U s (iso.to i) (partner None e)))
      at (Leaf v) e ih = plays_leaf T s i v e ∙ sym (plays_leaf U s (iso.to i) v (partner (Leaf v) e))
      at (Branch x a b) e ih =
          plays_branch T s i x a b e f.0 f.1
          ∙ ends (s x)
          ∙ sym (plays_branch U s (iso.to i) x (iso.to a) (iso.to b) (partner (Branch x a b) e) g.0 g.1)
        where
          f : (a < i) × (b < i)
          f = fallT i x a b h e

          g : (iso.to a < iso.to i) × (iso.to b < iso.to i)
          g = fallU (iso.to i) x (iso.to a) (iso.to b) (iso.into i h) (partner (Branch x a b) e)

          ends : (c : Bool) → plays T s (cond c b a) ≡ plays U s (cond c (iso.to b) (iso.to a))
          ends true = ih b (omega (arith, f)) (high h e)
          ends false = ih a (omega (arith, f)) (low h e)

  -- 004, Proposition 9: isomorphic maps play the same
  pub isomorphic_plays : FallingFrom U t → (s : Assignment) → plays T s r ≡ plays U s t
  isomorphic_plays fallU s = partners_play fallU s (suc r) r (omega arith) root ∙ ap (plays U s) roots_paired

-- every map is isomorphic to itself
renamed_same : (n : Node) → n ≡ renamed (λ k. k) n
renamed_same None = refl
renamed_same (Leaf v) = refl
renamed_same (Branch x a b) = refl

pub identity : (T : Column) (r : ℕ) → Isomorphic T r T r
identity T r = record {
  to = λ k. k;
  from = λ k. k;
  into = λ i h. h;
  back = λ k h. h;
  from_to = λ i h. refl;
  to_from = λ k h. refl;
  alike = λ i h. renamed_same (T i);
}

-- 01's case: (1,p,p) against (1,q,s), q and s distinct
pub shared_end_differs : (T U : Column) (r p t q s : ℕ) → FallingFrom T r → T r ≡ Branch 1 p p → U t ≡ Branch 1 q s → q ≢ s → Isomorphic T r U t → ⊥
shared_end_differs T U r p t q s fall e g n iso =
    let z : U t ≡ renamed iso.to (Branch 1 p p) = ap U (sym (roots_paired T r U t fall iso)) ∙ iso.alike r root ∙ ap (renamed iso.to) e in
    n (cc)

-- ---- a pairing that is closed under ends is an isomorphism: p from T's nodes to U's and q back, 0 for none
pub record Closed (T : Column) (r : ℕ) (U : Column) (t : ℕ) (p q : ℕ → ℕ) : Type 0 where
  pub start : p r ≡ t
  pub given : 0 < t
  pub inverse : (i : ℕ) → 0 < p i → q (p i) ≡ i
  pub alike : (i : ℕ) → 0 < p i → U (p i) ≡ renamed p (T i)
  pub ends : (i x a b : ℕ) → 0 < p i → T i ≡ Branch x a b → (0 < p a) × (0 < p b)

module _ (T : Column) (r : ℕ) (U : Column) (t : ℕ) (p q : ℕ → ℕ) (C : Closed T r U t p q) where
  has_partner : (i : ℕ) → Reached T r i → 0 < p i
  has_partner i root = omega (arith, C.start, C.given)
  has_partner i (low {i = k} {x = x} {a = a} {b = b} h e) = (C.ends k x a b (has_partner k h) e).0
  has_partner i (high {i = k} {x = x} {a = a} {b = b} h e) = (C.ends k x a b (has_partner k h) e).1

  partner_reached : (i : ℕ) → Reached T r i → Reached U t (p i)
  partner_reached i root = rw C.start root
  partner_reached i (low {i = k} {x = x} {a = a} {b = b} h e) = low (partner_reached k h) (C.alike k (has_partner k h) ∙ ap (renamed p) e)
  partner_reached i (high {i = k} {x = x} {a = a} {b = b} h e) = high (partner_reached k h) (C.alike k (has_partner k h) ∙ ap (renamed p) e)

  -- a node of T whose partner is c is q c
  at_q : (i c : ℕ) → Reached T r i → p i ≡ c → Reached T r (q c) × (p (q c) ≡ c)
  at_q i c h e =
      let z : q c ≡ i = cc (C.inverse i (has_partner i h)) in
      (rw z h, rw z e)

  parent_in : (k x c d : ℕ) → Reached T r (q k) × (p (q k) ≡ k) → U k ≡ Branch x c d
      → (a : ℕ) × (b : ℕ) × (T (q k) ≡ Branch x a b) × (p a ≡ c) × (p b ≡ d)
  parent_in k x c d h e = unrenamed p (T (q k)) x c d (sym (C.alike (q k) (has_partner (q k) h.0)) ∙ ap U h.1 ∙ e)

  back_reached : (k : ℕ) → Reached U t k → Reached T r (q k) × (p (q k) ≡ k)
  back_reached k root = at_q r t root C.start
  back_reached k (low {i = l} {x = x} {a = c} {b = d} h e) =
      let u = parent_in l x c d (back_reached l h) e in
      at_q u.0 c (low (back_reached l h).0 u.2) u.3
  back_reached k (high {i = l} {x = x} {a = c} {b = d} h e) =
      let u = parent_in l x c d (back_reached l h) e in
      at_q u.1 d (high (back_reached l h).0 u.2) u.4

  pub closed_isomorphic : Isomorphic T r U t
  closed_isomorphic = record {
    to = p;
    from = q;
    into = partner_reached;
    back = λ k h. (back_reached k h).0;
    from_to = λ i h. C.inverse i (has_partner i h);
    to_from = λ k h. (back_reached k h).1;
    alike = λ i h. C.alike i (has_partner i h);
  }

-- ---- one pair more
pub put_same : (f : ℕ → ℕ) (a c : ℕ) → put f a c a ≡ c
put_same f a c = rw (eq-eqb a a refl)

pub put_other : (f : ℕ → ℕ) (a c k : ℕ) → k ≢ a → put f a c k ≡ f k
put_other f a c k h = rw (ne_eqb k a h)

-- each is the other's inverse
record Links (p q : ℕ → ℕ) : Type 0 where
  p_none : p 0 ≡ 0
  q_none : q 0 ≡ 0
  back : (k : ℕ) → 0 < p k → q (p k) ≡ k
  forth : (k : ℕ) → 0 < q k → p (q k) ≡ k

no_links : Links (λ _. 0) (λ _. 0)
no_links = record { p_none = refl; q_none = refl; back = λ k h. absurd (omega arith); forth = λ k h. absurd (omega arith) }

-- what one pair does
record Paired (p q p' q' : ℕ → ℕ) (a c : ℕ) : Type 0 where
  links : Links p' q'
  here : p' a ≡ c
  grows : (k : ℕ) → 0 < p k → p' k ≡ p k
  only : (k : ℕ) → k ≢ a → p' k ≡ p k

pairs_inj : {p q p' q' : ℕ → ℕ} → pairs p q ≡ pairs p' q' → (p ≡ p') × (q ≡ q')
pairs_inj e = ((cc), (cc))

clash≢pairs : {p q : ℕ → ℕ} → clash ≡ pairs p q → ⊥
clash≢pairs e = let z : ◌≡◌ {A = ℕ} 0 1 = cc in omega arith

paired_new : (p q : ℕ → ℕ) (a c : ℕ) → Links p q → 0 < a → 0 < c → p a ≡ 0 → q c ≡ 0 → Paired p q (put p a c) (put q c a) a c
paired_new p q a c l ha hc pa qc = record {
  links = record {
    p_none = put_other p a c 0 (λ e. omega arith) ∙ l.p_none;
    q_none = put_other q c a 0 (λ e. omega arith) ∙ l.q_none;
    back = back;
    forth = forth;
  };
  here = put_same p a c;
  grows = λ k h. put_other p a c k (λ e. omega (arith, ap p e));
  only = λ k h. put_other p a c k h;
}
  where
    back : (k : ℕ) → 0 < put p a c k → put q c a (put p a c k) ≡ k
    back k h = by_cases (ℕ_discrete k a) (λ e. rw (e, put_same p a c, put_same q c a)) old
      where
        old : k ≢ a → put q c a (put p a c k) ≡ k
        old n =
            let e : put p a c k ≡ p k = put_other p a c k n in
            let z : q (p k) ≡ k = l.back k (omega arith) in
            rw e (put_other q c a (p k) (λ f. omega (arith, ap p (sym z ∙ ap q f ∙ qc), l.p_none)) ∙ z)

    forth : (k : ℕ) → 0 < put q c a k → put p a c (put q c a k) ≡ k
    forth k h = by_cases (ℕ_discrete k c) (λ e. rw (e, put_same q c a, put_same p a c)) old
      where
        old : k ≢ c → put p a c (put q c a k) ≡ k
        old n =
            let e : put q c a k ≡ q k = put_other q c a k n in
            let z : p (q k) ≡ k = l.forth k (omega arith) in
            rw e (put_other p a c (q k) (λ f. omega (arith, ap q (sym z ∙ ap p f ∙ pa), l.q_none)) ∙ z)

paired_old : (p q : ℕ → ℕ) (a c : ℕ) → Links p q → p a ≡ c → Paired p q p q a c
paired_old p q a c l e = record { links = l; here = e; grows = λ k h. refl; only = λ k h. refl }

-- a pair that is no clash
pair_some : (p q : ℕ → ℕ) (a c : ℕ) (p' q' : ℕ → ℕ) → Links p q → 0 < a → 0 < c → pair (pairs p q) a c ≡ pairs p' q' → Paired p q p' q' a c
unfolding pair
pair_some p q a c p' q' l ha hc e = by (eqb (p a) 0 && eqb (q c) 0) refl
  where
    by : (x : Bool) → (eqb (p a) 0 && eqb (q c) 0) ≡ x → Paired p q p' q' a c
    by true f =
        let g = pairs_inj (rw f at e) in
        rw (← g.0, ← g.1) (paired_new p q a c l ha hc (eqb-true (p a) 0 (and_left _ _ f)) (eqb-true (q c) 0 (and_right (eqb (p a) 0) _ f)))
    by false f = by_old (eqb (p a) c && eqb (q c) a) refl
      where
        by_old : (y : Bool) → (eqb (p a) c && eqb (q c) a) ≡ y → Paired p q p' q' a c
        by_old true g =
            let h = pairs_inj (rw (f, g) at e) in
            rw (← h.0, ← h.1) (paired_old p q a c l (eqb-true (p a) c (and_left _ _ g)))
        by_old false g = absurd (clash≢pairs (rw (f, g) at e))

same_values : (v w : Value) → same_value v w ≡ true → v ≡ w
same_values Star Star e = refl
same_values Star One e = absurd (true≢false (sym e))
same_values Star Zero e = absurd (true≢false (sym e))
same_values One Star e = absurd (true≢false (sym e))
same_values One One e = refl
same_values One Zero e = absurd (true≢false (sym e))
same_values Zero Star e = absurd (true≢false (sym e))
same_values Zero One e = absurd (true≢false (sym e))
same_values Zero Zero e = refl

same_value_refl : (v : Value) → same_value v v ≡ true
same_value_refl Star = refl
same_value_refl One = refl
same_value_refl Zero = refl

pub pair_clash : (a c : ℕ) → pair clash a c ≡ clash
unfolding pair
pair_clash a c = refl

pub pass_clash : (T U : Column) (i : ℕ) → pass T U i clash ≡ clash
unfolding pass visit
pass_clash T U zero = refl
pass_clash T U (suc i) = pass_clash T U i

-- ---- the pass
module _ (T : Column) (r : ℕ) (U : Column) (t : ℕ) (fallT : FallingFrom T r) (posT : PositiveFrom T r) (posU : PositiveFrom U t) (hr : 0 < r) (ht : 0 < t) where
  -- the nodes above i are done
  record Inv (i : ℕ) (p q : ℕ → ℕ) : Type 0 where
    links : Links p q
    start : p r ≡ t
    within : (k : ℕ) → 0 < p k → Reached T r k × Reached U t (p k)
    alike : (k : ℕ) → i < k → 0 < p k → U (p k) ≡ renamed p (T k)
    ends : (k x a b : ℕ) → i < k → 0 < p k → T k ≡ Branch x a b → (0 < p a) × (0 < p b)

  -- a node done stays done where the pairing grows below it
  stays : (p p' : ℕ → ℕ) (k : ℕ) → ((j : ℕ) → 0 < p j → p' j ≡ p j) → p' k ≡ p k → U (p k) ≡ renamed p (T k)
      → ((x a b : ℕ) → T k ≡ Branch x a b → (0 < p a) × (0 < p b)) → U (p' k) ≡ renamed p' (T k)
  stays p p' k grows e f ends = ap U e ∙ f ∙ by (T k) refl
    where
      by : (n : Node) → T k ≡ n → renamed p (T k) ≡ renamed p' (T k)
      by None g = rw g
      by (Leaf v) g = rw g
      by (Branch x a b) g = rw (g, grows a (ends x a b g).0, grows b (ends x a b g).1)

  -- pairs of reached nodes
  pairs_within : (p q p' q' : ℕ → ℕ) (a c : ℕ) → Paired p q p' q' a c → ((k : ℕ) → 0 < p k → Reached T r k × Reached U t (p k)) → Reached T r a → Reached U t c
      → (k : ℕ) → 0 < p' k → Reached T r k × Reached U t (p' k)
  pairs_within p q p' q' a c A within ha hc k h = by_cases (ℕ_discrete k a) new old
    where
      new : k ≡ a → Reached T r k × Reached U t (p' k)
      new e = rw (e, A.here) (ha, hc)

      old : k ≢ a → Reached T r k × Reached U t (p' k)
      old n = let o : p' k ≡ p k = A.only k n in rw o (within k (omega arith))

  unchanged : (i : ℕ) (p q : ℕ → ℕ) → Inv (suc i) p q
      → (0 < p (suc i) → (U (p (suc i)) ≡ renamed p (T (suc i))) × ((x a b : ℕ) → T (suc i) ≡ Branch x a b → (0 < p a) × (0 < p b))) → Inv i p q
  unchanged i p q I new = record {
    links = I.links;
    start = I.start;
    within = I.within;
    alike = λ k l h. by_cases (ℕ_discrete k (suc i)) (λ e. rw e (new (rw e at h)).0) (λ n. I.alike k (omega arith) h);
    ends = λ k x a b l h e. by_cases (ℕ_discrete k (suc i)) (λ f. (new (rw f at h)).1 x a b (rw f at e)) (λ n. I.ends k x a b (omega arith) h e);
  }

  branches : (i x a b c d : ℕ) (p q : ℕ → ℕ) → Inv (suc i) p q → 0 < p (suc i) → T (suc i) ≡ Branch x a b → U (p (suc i)) ≡ Branch x c d
      → (p₁ q₁ p₂ q₂ : ℕ → ℕ) → Paired p q p₁ q₁ a c → Paired p₁ q₁ p₂ q₂ b d → Inv i p₂ q₂
  branches i x a b c d p q I h em en p₁ q₁ p₂ q₂ A B = unchanged i p₂ q₂ I' (λ _. (new, λ y a' b' e. ends y a' b' (sym em ∙ e)))
    where
      here : Reached T r (suc i)
      here = (I.within (suc i) h).0

      there : Reached U t (p (suc i))
      there = (I.within (suc i) h).1

      f : (a < suc i) × (b < suc i)
      f = fallT (suc i) x a b here em

      pn : (0 < c) × (0 < d)
      pn = posU (p (suc i)) x c d there en

      grows : (k : ℕ) → 0 < p k → p₂ k ≡ p k
      grows k z = B.grows k (omega (arith, A.grows k z)) ∙ A.grows k z

      above : (k : ℕ) → i < k → p₂ k ≡ p k
      above k l = B.only k (λ e. omega (arith, f)) ∙ A.only k (λ e. omega (arith, f))

      at_a : p₂ a ≡ c
      at_a = B.grows a (omega (arith, A.here, pn)) ∙ A.here

      new : U (p₂ (suc i)) ≡ renamed p₂ (T (suc i))
      new = ap U (above (suc i) (omega arith)) ∙ en ∙ rw (em, at_a, B.here)

      ends : (y a' b' : ℕ) → Branch x a b ≡ Branch y a' b' → (0 < p₂ a') × (0 < p₂ b')
      ends y a' b' e =
          let ea : a ≡ a' = cc in
          let eb : b ≡ b' = cc in
          (omega (arith, ap p₂ ea, at_a, pn), omega (arith, ap p₂ eb, B.here, pn))

      I' : Inv (suc i) p₂ q₂
      I' = record {
        links = B.links;
        start = grows r (omega (arith, I.start)) ∙ I.start;
        within = pairs_within p₁ q₁ p₂ q₂ b d B (pairs_within p q p₁ q₁ a c A I.within (low here em) (low there en)) (high here em) (high there en);
        alike = λ k l z. stays p p₂ k grows (above k (omega arith)) (I.alike k l (omega (arith, above k (omega arith)))) (λ y a' b' e. I.ends k y a' b' l (omega (arith, above k (omega arith))) e);
        ends = λ k y a' b' l z e.
            let o = I.ends k y a' b' l (omega (arith, above k (omega arith))) e in
            (omega (arith, grows a' o.0, o.0), omega (arith, grows b' o.1, o.1));
      }

  compare_some : (i : ℕ) (p q p' q' : ℕ → ℕ) → Inv (suc i) p q → 0 < p (suc i) → (m n : Node) → T (suc i) ≡ m → U (p (suc i)) ≡ n
      → compare (pairs p q) m n ≡ pairs p' q' → Inv i p' q'
  unfolding compare
  compare_some i p q p' q' I h None n em en e = absurd (clash≢pairs e)
  compare_some i p q p' q' I h (Leaf v) None em en e = absurd (clash≢pairs e)
  compare_some i p q p' q' I h (Leaf v) (Leaf w) em en e = by (same_value v w) refl
    where
      by : (x : Bool) → same_value v w ≡ x → Inv i p' q'
      by true f =
          let g = pairs_inj (rw f at e) in
          rw (← g.0, ← g.1) (unchanged i p q I (λ _. (en ∙ ap Leaf (sym (same_values v w f)) ∙ sym (ap (renamed p) em), λ x a b o. absurd (leaf≢branch (sym em ∙ o)))))
      by false f = absurd (clash≢pairs (rw f at e))
  compare_some i p q p' q' I h (Leaf v) (Branch y c d) em en e = absurd (clash≢pairs e)
  compare_some i p q p' q' I h (Branch x a b) None em en e = absurd (clash≢pairs e)
  compare_some i p q p' q' I h (Branch x a b) (Leaf w) em en e = absurd (clash≢pairs e)
  compare_some i p q p' q' I h (Branch x a b) (Branch y c d) em en e = by (eqb x y) refl
    where
      pm : (0 < a) × (0 < b)
      pm = posT (suc i) x a b (I.within (suc i) h).0 em

      pn : (0 < c) × (0 < d)
      pn = posU (p (suc i)) y c d (I.within (suc i) h).1 en

      two : (P : Pairing) → pair (pairs p q) a c ≡ P → pair P b d ≡ pairs p' q' → x ≡ y → Inv i p' q'
      two clash f g z = absurd (clash≢pairs (sym (pair_clash b d) ∙ g))
      two (pairs p₁ q₁) f g z =
          let A = pair_some p q a c p₁ q₁ I.links pm.0 pn.0 f in
          branches i x a b c d p q I h em (en ∙ ap (λ (w : ℕ). Branch w c d) (sym z)) p₁ q₁ p' q' A (pair_some p₁ q₁ b d p' q' A.links pm.1 pn.1 g)

      by : (w : Bool) → eqb x y ≡ w → Inv i p' q'
      by true f = two (pair (pairs p q) a c) refl (rw (f, compare) at e) (eqb-true x y f)
      by false f = absurd (clash≢pairs (rw (f, compare) at e))

  visit_some : (i : ℕ) (p q p' q' : ℕ → ℕ) → Inv (suc i) p q → visit T U (suc i) (pairs p q) ≡ pairs p' q' → Inv i p' q'
  unfolding visit
  visit_some i p q p' q' I e = by (eqb (p (suc i)) 0) refl
    where
      by : (x : Bool) → eqb (p (suc i)) 0 ≡ x → Inv i p' q'
      by true f =
          let g = pairs_inj (rw (f, visit) at e) in
          let z : p (suc i) ≡ 0 = eqb-true _ _ f in
          rw (← g.0, ← g.1) (unchanged i p q I (λ h. absurd (omega arith)))
      by false f = compare_some i p q p' q' I (positive (p (suc i)) (eqb-false _ _ f)) (T (suc i)) (U (p (suc i))) refl refl (rw (f, visit) at e)
        where
          positive : (n : ℕ) → n ≢ 0 → 0 < n
          positive n h = omega arith

  pass_some : (i : ℕ) (p q p' q' : ℕ → ℕ) → Inv i p q → pass T U i (pairs p q) ≡ pairs p' q' → Inv 0 p' q'
  unfolding pass
  pass_some zero p q p' q' I e = let g = pairs_inj e in rw (← g.0, ← g.1) I
  pass_some (suc i) p q p' q' I e = by (visit T U (suc i) (pairs p q)) refl e (λ p₁ q₁. pass_some i p₁ q₁ p' q')
    where
      by : (P : Pairing) → visit T U (suc i) (pairs p q) ≡ P → pass T U i P ≡ pairs p' q'
          → ((p₁ q₁ : ℕ → ℕ) → Inv i p₁ q₁ → pass T U i (pairs p₁ q₁) ≡ pairs p' q' → Inv 0 p' q') → Inv 0 p' q'
      by clash f g ih = absurd (clash≢pairs (sym (pass_clash T U i) ∙ g))
      by (pairs p₁ q₁) f g ih = ih p₁ q₁ (visit_some i p q p₁ q₁ I f) g

  closed : (p q : ℕ → ℕ) → Inv 0 p q → Closed T r U t p q
  closed p q I = record {
    start = I.start;
    given = ht;
    inverse = I.links.back;
    alike = λ i h. I.alike i (above i h) h;
    ends = λ i x a b h e. I.ends i x a b (above i h) h e;
  }
    where
      above : (i : ℕ) → 0 < p i → 0 < i
      above zero h = absurd (omega (arith, I.links.p_none))
      above (suc i) h = omega arith

  -- a test that is passed shows an isomorphism
  pub test_sound : isomorphic T r U t ≡ true → Isomorphic T r U t
  unfolding isomorphic pair
  test_sound e = by (pass T U r (pairs (put (λ _. 0) r t) (put (λ _. 0) t r))) refl e
    where
      first : Paired (λ _. 0) (λ _. 0) (put (λ _. 0) r t) (put (λ _. 0) t r) r t
      first = paired_new (λ _. 0) (λ _. 0) r t no_links hr ht refl refl

      I : Inv r (put (λ _. 0) r t) (put (λ _. 0) t r)
      I = record {
        links = first.links;
        start = first.here;
        within = pairs_within (λ _. 0) (λ _. 0) (put (λ _. 0) r t) (put (λ _. 0) t r) r t first (λ k h. absurd (omega arith)) root root;
        alike = λ k l h. absurd (omega (arith, first.only k (λ z. omega arith)));
        ends = λ k x a b l h o. absurd (omega (arith, first.only k (λ z. omega arith)));
      }

      by : (P : Pairing) → pass T U r (pairs (put (λ _. 0) r t) (put (λ _. 0) t r)) ≡ P → whole P ≡ true → Isomorphic T r U t
      by clash f g = absurd (true≢false (sym g))
      by (pairs p q) f g = closed_isomorphic T r U t p q (closed p q (pass_some r _ _ p q I f))

  -- ---- an isomorphism has every pair that the pass makes
  module _ (some : (i : ℕ) → Reached T r i → T i ≢ None) (iso : Isomorphic T r U t) where
    record Within (p q : ℕ → ℕ) : Type 0 where
      links : Links p q
      within : (k : ℕ) → 0 < p k → Reached T r k × (p k ≡ iso.to k)

    -- the result of a step is a pairing within the isomorphism
    abbrev Kept : Pairing → Type 0
    Kept clash = ⊥
    Kept (pairs p q) = Within p q

    pair_kept : (P : Pairing) (a : ℕ) → Kept P → Reached T r a → 0 < a → 0 < iso.to a → Kept (pair P a (iso.to a))
    unfolding pair
    pair_kept (pairs p q) a W h ha hc = by (p a) refl (q (iso.to a)) refl
      where
        c : ℕ
        c = iso.to a

        by : (x : ℕ) → p a ≡ x → (y : ℕ) → q (iso.to a) ≡ y → Kept (pair (pairs p q) a (iso.to a))
        by zero e zero f = rw (e, f) (record { links = N.links; within = within })
          where
            N : Paired p q (put p a c) (put q c a) a c
            N = paired_new p q a c W.links ha hc e f

            within : (k : ℕ) → 0 < put p a c k → Reached T r k × (put p a c k ≡ iso.to k)
            within k z =
                by_cases
                (ℕ_discrete k a)
                (λ g. rw g (h, put_same p a c))
                (λ g. let o = put_other p a c k g in ((W.within k (omega arith)).0, o ∙ (W.within k (omega arith)).1))
        by zero e (suc y) f = absurd (omega (arith, e, W.links.forth c (omega (arith, f)), ap p back))
          where
            u : p (q c) ≡ c
            u = W.links.forth c (omega (arith, f))

            back : q c ≡ a
            back = injective T r U t fallT iso (q c) a (W.within (q c) (omega (arith, u))).0 h (sym (W.within (q c) (omega (arith, u))).1 ∙ u)
        by (suc x) e y f = rw (nz, pa, qc) W
          where
            nz : eqb (p a) 0 ≡ false
            nz = ne_eqb (p a) 0 (λ z. omega (arith, e))

            pa : eqb (p a) (iso.to a) ≡ true
            pa = eq-eqb _ _ (W.within a (omega (arith, e))).1

            qc : eqb (q (iso.to a)) a ≡ true
            qc = eq-eqb _ _ (ap q (sym (W.within a (omega (arith, e))).1) ∙ W.links.back a (omega (arith, e)))
    pair_kept clash a W h ha hc = W

    visit_kept : (i : ℕ) (P : Pairing) → Kept P → Kept (visit T U i P)
    unfolding visit compare
    visit_kept i clash W = W
    visit_kept i (pairs p q) W = by (p i) refl
      where
        by : (x : ℕ) → p i ≡ x → Kept (visit T U i (pairs p q))
        by zero e = rw (eq-eqb (p i) 0 e, visit) W
        by (suc x) e = rw (nz, to_n, visit) (at (T i) refl)
          where
            nz : eqb (p i) 0 ≡ false
            nz = ne_eqb (p i) 0 (λ z. omega (arith, e))

            h : Reached T r i
            h = (W.within i (omega (arith, e))).0

            to_n : U (p i) ≡ renamed iso.to (T i)
            to_n = ap U (W.within i (omega (arith, e))).1 ∙ iso.alike i h

            at : (m : Node) → T i ≡ m → Kept (compare (pairs p q) (T i) (renamed iso.to (T i)))
            at None f = absurd (some i h f)
            at (Leaf v) f = rw (f, same_value_refl v) W
            at (Branch y a b) f =
                rw (f, eq-eqb y y refl, compare) (pair_kept (pair (pairs p q) a (iso.to a)) b (pair_kept (pairs p q) a W (low h f) pm.0 pn.0) (high h f) pm.1 pn.1)
              where
                pm : (0 < a) × (0 < b)
                pm = posT i y a b h f

                pn : (0 < iso.to a) × (0 < iso.to b)
                pn = posU (iso.to i) y (iso.to a) (iso.to b) (iso.into i h) (iso.alike i h ∙ ap (renamed iso.to) f)

    pass_kept : (i : ℕ) (P : Pairing) → Kept P → Kept (pass T U i P)
    unfolding pass
    pass_kept zero P W = W
    pass_kept (suc i) P W = pass_kept i (visit T U (suc i) P) (visit_kept (suc i) P W)

    kept_whole : (P : Pairing) → Kept P → whole P ≡ true
    kept_whole clash W = absurd W
    kept_whole (pairs p q) W = refl

    -- isomorphic maps pass the test
    pub test_complete : isomorphic T r U t ≡ true
    unfolding isomorphic
    test_complete = kept_whole (pass T U r start) (pass_kept r start begin)
      where
        start : Pairing
        start = pair (pairs (λ _. 0) (λ _. 0)) r t

        begin : Kept (pair (pairs (λ _. 0) (λ _. 0)) r t)
        begin =
            subst (λ (c : ℕ). Kept (pair (pairs (λ _. 0) (λ _. 0)) r c)) (roots_paired T r U t fallT iso)
            (pair_kept (pairs (λ _. 0) (λ _. 0)) r (record { links = no_links; within = λ k z. absurd (omega arith) }) root hr (omega (arith, roots_paired T r U t fallT iso)))

-- the test decides isomorphism
pub test_decides : (T : Column) (r : ℕ) (U : Column) (t : ℕ) → Sound T r → Sound U t → 0 < r → 0 < t → (isomorphic T r U t ≡ true) ↔ Isomorphic T r U t
test_decides T r U t S R hr ht = (
  test_sound T r U t S.falling S.positive R.positive hr ht,
  test_complete T r U t S.falling S.positive R.positive hr ht S.some,
)

-- a map passes the test against itself
pub isomorphic_self : (T : Column) (r : ℕ) → Sound T r → 0 < r → isomorphic T r T r ≡ true
isomorphic_self T r S hr = (test_decides T r T r S S hr hr).1 (identity T r)
