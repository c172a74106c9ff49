-- Prefixes by their places, and clauses by their members: what the definitions of Formula say of each.
use Rattle.std.specs.Prelude.{◌≡◌, refl, Bool, true, false, cond, not, ◌&&◌, ◌||◌, List, [], ◌∷◌, ◌++◌, ◌≢◌, ◌⊎◌, ℕ, zero, suc, ◌-◌, ◌*◌, ◌≤◌, ◌<◌, eqb, length, get_or}
use Rattle.std.proofs.Common.{sym, ap, ◌∙◌, true≢false, append-nil, inl, inr, arith, length-append, eq-eqb, ne_eqb, eqb-true}
use Rattle.std.proofs.lemmas.Bool.{false≢true}
use Rattle.std.proofs.Math.Bool.{or_assoc, or-false, or-true}
use Rattle.std.proofs.Math.Logic.{by_cases}
use Rattle.std.proofs.Math.Decide.{ℕ_discrete, dec_lt}
use Rattle.std.proofs.Math.ListN.{get_or-append}
use Rattle.std.proofs.Math.Seq.{get_or-append_seam}
use Rattle.rules.specs.definitions.Layout.{word_bits, set_words}
use Rattle.rules.specs.definitions.Limits.{variables_most}
use Rattle.rules.specs.definitions.Sets.{Set, has, with, without, empty}
use Rattle.theory.specs.laws.Sets.{and_left, and_right, or_cases, length_none, length_with, length_without, length_join, length_only, has_none, with_comm, has_with, has_without, has_join, has_only, empty_has, has_empty, member, meet_member, member_meet, meet_has, has_meet}
use Rattle.rules.specs.definitions.Formula.{Quant, Bound, Clause, Formula, Literal, same_kind, bound_by, bound, universals, existentials, left_of, no_literal, with_literal, kept_by, resolvent, two_faced, empty_clause}
use Rattle.rules.specs.definitions.Formula.Quant.{exists, forall}
use Rattle.rules.specs.statements.Proper.{nowhere, var_at, kind_at, Distinct, Proper}

pub eqb_comm : (a b : ℕ) → eqb a b ≡ eqb b a
eqb_comm a b =
    by_cases (ℕ_discrete a b) (λ e. eq-eqb a b e ∙ sym (eq-eqb b a (sym e))) (λ n. ne_eqb a b n ∙ sym (ne_eqb b a (λ e. n (sym e))))

-- ---- quantifiers
kind_same : (k : Quant) → same_kind k k ≡ true
kind_same exists = refl
kind_same forall = refl

same_kind_true : (k l : Quant) → same_kind k l ≡ true → l ≡ k
same_kind_true exists exists h = refl
same_kind_true exists forall h = absurd (false≢true h)
same_kind_true forall exists h = absurd (false≢true h)
same_kind_true forall forall h = refl

-- ---- a bound variable has a place
pub bound_by_place : (k : Quant) (Q : List Bound) (v : ℕ) → bound_by k Q v ≡ true → (i : ℕ) × (i < length Q) × (kind_at Q i ≡ k) × (var_at Q i ≡ v)
unfolding bound_by
bound_by_place k [] v h = absurd (false≢true h)
bound_by_place k (q ∷ Q) v h = go (λ e. bound_by_place k Q v e) (or_cases (same_kind k q.kind && eqb q.var v) (bound_by k Q v) h)
  where
    go : (bound_by k Q v ≡ true → (i : ℕ) × (i < length Q) × (kind_at Q i ≡ k) × (var_at Q i ≡ v)) → ((same_kind k q.kind && eqb q.var v) ≡ true) ⊎ (bound_by k Q v ≡ true)
        → (i : ℕ) × (i < suc (length Q)) × (kind_at (q ∷ Q) i ≡ k) × (var_at (q ∷ Q) i ≡ v)
    go rest (inl e) =
        (0, omega arith, same_kind_true k q.kind (and_left (same_kind k q.kind) (eqb q.var v) e), eqb-true q.var v (and_right (same_kind k q.kind) (eqb q.var v) e))
    go rest (inr e) = let r = rest e in (suc r.0, omega arith, r.2, r.3)

pub place_bound_by : (Q : List Bound) (i : ℕ) → i < length Q → bound_by (kind_at Q i) Q (var_at Q i) ≡ true
unfolding bound_by
place_bound_by [] i h = absurd (omega arith)
place_bound_by (q ∷ Q) zero h = rw (kind_same q.kind, eq-eqb q.var q.var refl)
place_bound_by (q ∷ Q) (suc i) h = rw (place_bound_by Q i (omega arith)) (or-true (same_kind (kind_at Q i) q.kind && eqb q.var (var_at Q i)))

pub bound_place : (Q : List Bound) (v : ℕ) → bound Q v ≡ true → (i : ℕ) × (i < length Q) × (var_at Q i ≡ v)
unfolding bound
bound_place [] v h = absurd (false≢true h)
bound_place (q ∷ Q) v h = go (λ e. bound_place Q v e) (or_cases (eqb q.var v) (bound Q v) h)
  where
    go : (bound Q v ≡ true → (i : ℕ) × (i < length Q) × (var_at Q i ≡ v)) → (eqb q.var v ≡ true) ⊎ (bound Q v ≡ true)
        → (i : ℕ) × (i < suc (length Q)) × (var_at (q ∷ Q) i ≡ v)
    go rest (inl e) = (0, omega arith, eqb-true q.var v e)
    go rest (inr e) = let r = rest e in (suc r.0, omega arith, r.2)

pub place_bound : (Q : List Bound) (i : ℕ) → i < length Q → bound Q (var_at Q i) ≡ true
unfolding bound
place_bound [] i h = absurd (omega arith)
place_bound (q ∷ Q) zero h = rw (eq-eqb q.var q.var refl)
place_bound (q ∷ Q) (suc i) h = rw (place_bound Q i (omega arith)) (or-true (eqb q.var (var_at Q i)))

-- bound by a quantifier is bound, and bound is bound by one of the two
pub bound_by_bound : (k : Quant) (Q : List Bound) (v : ℕ) → bound_by k Q v ≡ true → bound Q v ≡ true
bound_by_bound k Q v h = let r = bound_by_place k Q v h in rw r.3 at (place_bound Q r.0 r.1)

pub bound_cases : (Q : List Bound) (v : ℕ) → bound Q v ≡ true → (bound_by exists Q v ≡ true) ⊎ (bound_by forall Q v ≡ true)
bound_cases Q v h = go (kind_at Q i) (place_bound_by Q i (bound_place Q v h).1)
  where
    i : ℕ
    i = (bound_place Q v h).0

    go : (k : Quant) → bound_by k Q (var_at Q i) ≡ true → (bound_by exists Q v ≡ true) ⊎ (bound_by forall Q v ≡ true)
    go exists e = inl (rw (bound_place Q v h).2 at e)
    go forall e = inr (rw (bound_place Q v h).2 at e)

-- ---- no variable bound twice
pub distinct_tail : (q : Bound) (Q : List Bound) → Distinct (q ∷ Q) → Distinct Q
distinct_tail q Q d i j hi hj e = omega (arith, d (suc i) (suc j) (omega arith) (omega arith) e)

pub distinct_head : (q : Bound) (Q : List Bound) → Distinct (q ∷ Q) → bound Q q.var ≡ false
distinct_head q Q d = go (bound Q q.var) refl
  where
    go : (b : Bool) → bound Q q.var ≡ b → bound Q q.var ≡ false
    go true e = let r = bound_place Q q.var e in absurd (omega (arith, d 0 (suc r.0) (omega arith) (omega arith) (sym r.2)))
    go false e = e

-- no variable is bound by both quantifiers
pub one_kind : (Q : List Bound) (v : ℕ) → Distinct Q → bound_by exists Q v ≡ true → bound_by forall Q v ≡ true → ⊥
one_kind Q v d h l = exists≢forall (sym p.2 ∙ ap (kind_at Q) (d p.0 r.0 p.1 r.1 (p.3 ∙ sym r.3)) ∙ r.2)
  where
    p : (i : ℕ) × (i < length Q) × (kind_at Q i ≡ exists) × (var_at Q i ≡ v)
    p = bound_by_place exists Q v h

    r : (i : ℕ) × (i < length Q) × (kind_at Q i ≡ forall) × (var_at Q i ≡ v)
    r = bound_by_place forall Q v l

    exists≢forall : exists ≡ forall → ⊥
    exists≢forall e = let z : ◌≡◌ {A = ℕ} 0 1 = cc in omega arith

-- ---- the universals
pub universals_exists : (q : Bound) (Q : List Bound) → q.kind ≡ exists → universals (q ∷ Q) ≡ universals Q
unfolding universals
universals_exists q Q e = rw e

pub universals_forall : (q : Bound) (Q : List Bound) → q.kind ≡ forall → universals (q ∷ Q) ≡ q.var ∷ universals Q
unfolding universals
universals_forall q Q e = rw e

-- the j-th universal's place
abbrev pub UniversalPlace : List Bound → ℕ → Type 0
UniversalPlace Q v = (i : ℕ) × (i < length Q) × (kind_at Q i ≡ forall) × (var_at Q i ≡ v)

pub universal_place : (Q : List Bound) (j : ℕ) → j < length (universals Q) → UniversalPlace Q (get_or (universals Q) j 0)
unfolding universals
universal_place [] j h = absurd (omega arith)
universal_place (q ∷ Q) j h = go (λ k l. universal_place Q k l) j q.kind refl h
  where
    further : (v : ℕ) → UniversalPlace Q v → UniversalPlace (q ∷ Q) v
    further v r = (suc r.0, omega arith, r.2, r.3)

    first : (us : List ℕ) → ((k : ℕ) → k < length us → UniversalPlace Q (get_or us k 0)) → q.kind ≡ forall → (k : ℕ) → k < suc (length us)
        → UniversalPlace (q ∷ Q) (get_or (q.var ∷ us) k 0)
    first us rest e zero l = (0, omega arith, e, refl)
    first us rest e (suc k) l = further (get_or us k 0) (rest k (omega arith))

    go : ((k : ℕ) → k < length (universals Q) → UniversalPlace Q (get_or (universals Q) k 0)) → (j : ℕ) (k : Quant) → q.kind ≡ k → j < length (universals (q ∷ Q))
        → UniversalPlace (q ∷ Q) (get_or (universals (q ∷ Q)) j 0)
    go rest j exists e l =
        rw (universals_exists q Q e) (further (get_or (universals Q) j 0) (rest j (rw (universals_exists q Q e) at l)))
    go rest j forall e l =
        rw (universals_forall q Q e) (first (universals Q) rest e j (rw (universals_forall q Q e) at l))

pub universal_bound : (Q : List Bound) (j : ℕ) → j < length (universals Q) → bound_by forall Q (get_or (universals Q) j 0) ≡ true
universal_bound Q j h =
    let r = universal_place Q j h in
    rw (sym r.3) (rw r.2 at (place_bound_by Q r.0 r.1))

-- each variable that is bound by forall is one of the universals
pub bound_universal : (Q : List Bound) (v : ℕ) → bound_by forall Q v ≡ true → (j : ℕ) × (j < length (universals Q)) × (get_or (universals Q) j 0 ≡ v)
unfolding bound_by
bound_universal [] v h = absurd (false≢true h)
bound_universal (q ∷ Q) v h = go (λ e. bound_universal Q v e) q.kind refl
  where
    first : (us : List ℕ) → (bound_by forall Q v ≡ true → (j : ℕ) × (j < length us) × (get_or us j 0 ≡ v)) → (eqb q.var v ≡ true) ⊎ (bound_by forall Q v ≡ true)
        → (j : ℕ) × (j < suc (length us)) × (get_or (q.var ∷ us) j 0 ≡ v)
    first us rest (inl e) = (0, omega arith, eqb-true q.var v e)
    first us rest (inr e) = let r = rest e in (suc r.0, omega arith, r.2)

    go : (bound_by forall Q v ≡ true → (j : ℕ) × (j < length (universals Q)) × (get_or (universals Q) j 0 ≡ v)) → (k : Quant) → q.kind ≡ k
        → (j : ℕ) × (j < length (universals (q ∷ Q))) × (get_or (universals (q ∷ Q)) j 0 ≡ v)
    go rest exists e = rw (universals_exists q Q e) (rest (rw e at h))
    go rest forall e = rw (universals_forall q Q e) (first (universals Q) rest (or_cases (eqb q.var v) (bound_by forall Q v) (rw e at h)))

-- the universals are different variables
pub universals_differ : (Q : List Bound) → Distinct Q → (j k : ℕ) → j < length (universals Q) → k < length (universals Q)
    → get_or (universals Q) j 0 ≡ get_or (universals Q) k 0 → j ≡ k
unfolding universals
universals_differ [] d = λ j k hj hk e. absurd (omega arith)
universals_differ (q ∷ Q) d = go (universals_differ Q (distinct_tail q Q d)) q.kind refl
  where
    Differ : List ℕ → Type 0
    Differ us = (j k : ℕ) → j < length us → k < length us → get_or us j 0 ≡ get_or us k 0 → j ≡ k

    other : (j : ℕ) → j < length (universals Q) → q.var ≡ get_or (universals Q) j 0 → ⊥
    other j h e = true≢false (sym (bound_by_bound forall Q (get_or (universals Q) j 0) (universal_bound Q j h)) ∙ ap (bound Q) (sym e) ∙ distinct_head q Q d)

    first : (us : List ℕ) → Differ us → ((j : ℕ) → j < length us → q.var ≡ get_or us j 0 → ⊥) → Differ (q.var ∷ us)
    first us rest o zero zero hj hk e = refl
    first us rest o zero (suc k) hj hk e = absurd (o k (omega arith) e)
    first us rest o (suc j) zero hj hk e = absurd (o j (omega arith) (sym e))
    first us rest o (suc j) (suc k) hj hk e = ap suc (rest j k (omega arith) (omega arith) e)

    go : Differ (universals Q) → (k : Quant) → q.kind ≡ k → Differ (universals (q ∷ Q))
    go rest exists e = rw (universals_exists q Q e) rest
    go rest forall e = rw (universals_forall q Q e) (first (universals Q) rest other)

-- ---- the existentials
-- each variable of the prefix has its place in a set
abbrev pub Fits : List Bound → Type 0
Fits Q = (i : ℕ) → i < length Q → (1 ≤ var_at Q i) × (var_at Q i ≤ word_bits * set_words)

-- every variable of 01 has its place in a set
pub fits : (v : ℕ) → v ≤ variables_most → v ≤ word_bits * set_words
unfolding set_words
fits v h = omega arith

pub proper_fits : (F : Formula) → Proper F → Fits F.prefix
proper_fits F p i h = ((p.in_range i h).0, fits (var_at F.prefix i) (omega (arith, (p.in_range i h).1, p.variables)))

pub existentials_exists : (q : Bound) (Q : List Bound) → q.kind ≡ exists → existentials (q ∷ Q) ≡ with (existentials Q) q.var
unfolding existentials
existentials_exists q Q e = rw e

pub existentials_forall : (q : Bound) (Q : List Bound) → q.kind ≡ forall → existentials (q ∷ Q) ≡ existentials Q
unfolding existentials
existentials_forall q Q e = rw e

pub length_existentials : (Q : List Bound) → length (existentials Q) ≡ set_words
unfolding existentials
length_existentials [] = length_none set_words
length_existentials (q ∷ Q) = go (length_existentials Q) q.kind refl
  where
    go : length (existentials Q) ≡ set_words → (k : Quant) → q.kind ≡ k → length (existentials (q ∷ Q)) ≡ set_words
    go rest exists e = rw (existentials_exists q Q e, length_with (existentials Q) q.var) rest
    go rest forall e = rw (existentials_forall q Q e) rest

pub has_existentials : (Q : List Bound) → Fits Q → (v : ℕ) → has (existentials Q) v ≡ bound_by exists Q v
unfolding existentials bound_by
has_existentials [] f v = has_none set_words v
has_existentials (q ∷ Q) f v = go (has_existentials Q (λ i h. f (suc i) (omega arith)) v) q.kind refl
  where
    go : has (existentials Q) v ≡ bound_by exists Q v → (k : Quant) → q.kind ≡ k → has (existentials (q ∷ Q)) v ≡ bound_by exists (q ∷ Q) v
    go rest exists e =
        rw (existentials_exists q Q e, e, has_with (existentials Q) q.var v (f 0 (omega arith)).0 (rw (length_existentials Q) (f 0 (omega arith)).1), rest, eqb_comm v q.var)
    go rest forall e = rw (existentials_forall q Q e, e, rest)

-- ---- left: earlier in the prefix
left_on : (q : Bound) (Q : List Bound) (x u : ℕ) → eqb q.var u ≡ false → left_of (q ∷ Q) x u ≡ ((eqb q.var x && bound Q u) || left_of Q x u)
unfolding left_of
left_on q Q x u e = rw (e, left_of)

left_end : (q : Bound) (Q : List Bound) (x u : ℕ) → eqb q.var u ≡ true → left_of (q ∷ Q) x u ≡ false
unfolding left_of
left_end q Q x u e = rw (e, left_of)

-- x stands before u: a place of x before a place of u
pub record Left (Q : List Bound) (x u : ℕ) : Type 0 where
  pub at : ℕ
  pub later : ℕ
  pub order : at < later
  pub inside : later < length Q
  pub first : var_at Q at ≡ x
  pub second : var_at Q later ≡ u

pub left_place : (Q : List Bound) (x u : ℕ) → left_of Q x u ≡ true → Left Q x u
unfolding left_of
left_place [] x u h = absurd (false≢true h)
left_place (q ∷ Q) x u h = go (λ e. left_place Q x u e) (eqb q.var u) refl
  where
    here : (eqb q.var x && bound Q u) ≡ true → Left (q ∷ Q) x u
    here e =
        let r = bound_place Q u (and_right (eqb q.var x) (bound Q u) e) in
        record { at = 0; later = suc r.0; order = omega arith; inside = omega arith; first = eqb-true q.var x (and_left (eqb q.var x) (bound Q u) e); second = r.2 }

    later : Left Q x u → Left (q ∷ Q) x u
    later r = record { at = suc r.at; later = suc r.later; order = omega (arith, r.order); inside = omega (arith, r.inside); first = r.first; second = r.second }

    cases : (left_of Q x u ≡ true → Left Q x u) → ((eqb q.var x && bound Q u) ≡ true) ⊎ (left_of Q x u ≡ true) → Left (q ∷ Q) x u
    cases rest (inl e) = here e
    cases rest (inr e) = later (rest e)

    go : (left_of Q x u ≡ true → Left Q x u) → (b : Bool) → eqb q.var u ≡ b → Left (q ∷ Q) x u
    go rest true e = absurd (false≢true (sym (left_end q Q x u e) ∙ h))
    go rest false e = cases rest (or_cases (eqb q.var x && bound Q u) (left_of Q x u) (sym (left_on q Q x u e) ∙ h))

pub place_left : (Q : List Bound) → Distinct Q → (i j : ℕ) → i < j → j < length Q → left_of Q (var_at Q i) (var_at Q j) ≡ true
place_left [] d i j h l = absurd (omega arith)
place_left (q ∷ Q) d i zero h l = absurd (omega arith)
place_left (q ∷ Q) d i (suc j) h l = left_on q Q (var_at (q ∷ Q) i) (var_at Q j) other ∙ go i h (λ k m. place_left Q (distinct_tail q Q d) k j m (omega arith))
  where
    other : eqb q.var (var_at Q j) ≡ false
    other = ne_eqb q.var (var_at Q j) (λ e. absurd (omega (arith, d 0 (suc j) (omega arith) l e)))

    go : (i : ℕ) → i < suc j → ((k : ℕ) → k < j → left_of Q (var_at Q k) (var_at Q j) ≡ true)
        → ((eqb q.var (var_at (q ∷ Q) i) && bound Q (var_at Q j)) || left_of Q (var_at (q ∷ Q) i) (var_at Q j)) ≡ true
    go zero m rest = rw (eq-eqb q.var q.var refl, place_bound Q j (omega arith))
    go (suc k) m rest = rw (rest k (omega arith)) (or-true (eqb q.var (var_at Q k) && bound Q (var_at Q j)))

-- x before u in a prefix without a variable twice, by any places of theirs
pub left_order : (Q : List Bound) → Distinct Q → (i j : ℕ) → i < length Q → j < length Q → left_of Q (var_at Q i) (var_at Q j) ≡ true → i < j
left_order Q d i j hi hj h =
    let r = left_place Q (var_at Q i) (var_at Q j) h in
    omega (arith, r.order, r.inside, d r.at i (omega (arith, r.order, r.inside)) hi r.first, d r.later j r.inside hj r.second)

-- ---- one bound variable more, at the end
pub bound_snoc : (Q : List Bound) (q : Bound) (v : ℕ) → bound (Q ++ (q ∷ [])) v ≡ (bound Q v || eqb q.var v)
unfolding bound
bound_snoc [] q v = or-false (eqb q.var v)
bound_snoc (r ∷ Q) q v = rw (bound_snoc Q q v) (sym (or_assoc (eqb r.var v) (bound Q v) (eqb q.var v)))

pub bound_by_snoc : (k : Quant) (Q : List Bound) (q : Bound) (v : ℕ)
    → bound_by k (Q ++ (q ∷ [])) v ≡ (bound_by k Q v || (same_kind k q.kind && eqb q.var v))
unfolding bound_by
bound_by_snoc k [] q v = or-false (same_kind k q.kind && eqb q.var v)
bound_by_snoc k (r ∷ Q) q v =
    rw (bound_by_snoc k Q q v) (sym (or_assoc (same_kind k r.kind && eqb r.var v) (bound_by k Q v) (same_kind k q.kind && eqb q.var v)))

pub universals_append : (Q R : List Bound) → universals (Q ++ R) ≡ universals Q ++ universals R
unfolding universals
universals_append [] R = refl
universals_append (q ∷ Q) R = go (universals_append Q R) q.kind refl
  where
    go : universals (Q ++ R) ≡ universals Q ++ universals R → (k : Quant) → q.kind ≡ k → universals (q ∷ (Q ++ R)) ≡ universals (q ∷ Q) ++ universals R
    go rest exists e = rw (universals_exists q (Q ++ R) e, universals_exists q Q e) rest
    go rest forall e = rw (universals_forall q (Q ++ R) e, universals_forall q Q e, rest)

abbrev bind_of : Quant → ℕ → Bound
bind_of k v = record { kind = k; var = v }

pub universals_snoc_exists : (Q : List Bound) (v : ℕ) → universals (Q ++ (record { kind = exists; var = v } ∷ [])) ≡ universals Q
unfolding universals
universals_snoc_exists Q v = universals_append Q (bind_of exists v ∷ []) ∙ append-nil (universals Q)

pub universals_snoc_forall : (Q : List Bound) (v : ℕ) → universals (Q ++ (record { kind = forall; var = v } ∷ [])) ≡ universals Q ++ (v ∷ [])
unfolding universals
universals_snoc_forall Q v = universals_append Q (bind_of forall v ∷ [])

-- an existential more is one variable more in their set
pub existentials_snoc_exists : (Q : List Bound) (v : ℕ) → existentials (Q ++ (record { kind = exists; var = v } ∷ [])) ≡ with (existentials Q) v
unfolding existentials
existentials_snoc_exists [] v = refl
existentials_snoc_exists (q ∷ Q) v = go (existentials_snoc_exists Q v) q.kind refl
  where
    more : List Bound
    more = Q ++ (record { kind = exists; var = v } ∷ [])

    go : existentials more ≡ with (existentials Q) v → (k : Quant) → q.kind ≡ k → existentials (q ∷ more) ≡ with (existentials (q ∷ Q)) v
    go rest exists e = rw (existentials_exists q more e, existentials_exists q Q e, rest) (with_comm (existentials Q) v q.var)
    go rest forall e = rw (existentials_forall q more e, existentials_forall q Q e) rest

pub existentials_snoc_forall : (Q : List Bound) (v : ℕ) → existentials (Q ++ (record { kind = forall; var = v } ∷ [])) ≡ existentials Q
unfolding existentials
existentials_snoc_forall [] v = refl
existentials_snoc_forall (q ∷ Q) v = go (existentials_snoc_forall Q v) q.kind refl
  where
    more : List Bound
    more = Q ++ (record { kind = forall; var = v } ∷ [])

    go : existentials more ≡ existentials Q → (k : Quant) → q.kind ≡ k → existentials (q ∷ more) ≡ existentials (q ∷ Q)
    go rest exists e = rw (existentials_exists q more e, existentials_exists q Q e, rest)
    go rest forall e = rw (existentials_forall q more e, existentials_forall q Q e) rest

pub var_at_snoc : (Q : List Bound) (q : Bound) (i : ℕ) → i < length Q → var_at (Q ++ (q ∷ [])) i ≡ var_at Q i
var_at_snoc Q q i h = ap (λ (b : Bound). b.var) (get_or-append Q (q ∷ []) nowhere i h)

pub var_at_last : (Q : List Bound) (q : Bound) → var_at (Q ++ (q ∷ [])) (length Q) ≡ q.var
var_at_last Q q = ap (λ (b : Bound). b.var) (get_or-append_seam Q q [] nowhere)

pub length_snoc : (Q : List Bound) (q : Bound) → length (Q ++ (q ∷ [])) ≡ suc (length Q)
length_snoc Q q = length-append Q (q ∷ []) ∙ omega arith

pub distinct_snoc : (Q : List Bound) (q : Bound) → Distinct Q → bound Q q.var ≡ false → Distinct (Q ++ (q ∷ []))
distinct_snoc Q q d n i j hi hj e = by_cases (dec_lt i (length Q)) (λ a. by_cases (dec_lt j (length Q)) (both a) (λ b. absurd (one i j a b hj e))) (λ a. by_cases (dec_lt j (length Q)) (λ b. absurd (one j i b a hi (sym e))) (λ b. omega (arith, length_snoc Q q)))
  where
    both : i < length Q → j < length Q → i ≡ j
    both a b = d i j a b (sym (var_at_snoc Q q i a) ∙ e ∙ var_at_snoc Q q j b)

    one : (i j : ℕ) → i < length Q → (j < length Q → ⊥) → j < length (Q ++ (q ∷ [])) → var_at (Q ++ (q ∷ [])) i ≡ var_at (Q ++ (q ∷ [])) j → ⊥
    one i j a b hj e =
        let last : j ≡ length Q = omega (arith, length_snoc Q q) in
        true≢false (sym (place_bound Q i a) ∙ ap (bound Q) (sym (var_at_snoc Q q i a) ∙ e ∙ ap (var_at (Q ++ (q ∷ []))) last ∙ var_at_last Q q) ∙ n)

-- ---- clauses
-- both sets of the clause have their words
pub record Worded (c : Clause) : Type 0 where
  pub plain : length c.plain ≡ set_words
  pub negated : length c.negated ≡ set_words

pub no_literal_words : Worded no_literal
no_literal_words = record { plain = length_none set_words; negated = length_none set_words }

pub with_literal_words : (c : Clause) (l : Literal) → Worded c → Worded (with_literal c l)
unfolding with_literal
with_literal_words c l w = go l.negated refl
  where
    go : (b : Bool) → l.negated ≡ b → Worded (with_literal c l)
    go true e = rw (e, with_literal) (record { plain = w.plain; negated = length_with c.negated l.variable ∙ w.negated })
    go false e = rw (e, with_literal) (record { plain = length_with c.plain l.variable ∙ w.plain; negated = w.negated })

pub kept_words : (es : Set) (c : Clause) → length es ≡ set_words → Worded c → Worded (kept_by es c)
unfolding kept_by
kept_words es c h w =
    record { plain = length_only c.plain es (w.plain ∙ sym h) ∙ w.plain; negated = length_only c.negated es (w.negated ∙ sym h) ∙ w.negated }

pub resolvent_words : (c d : Clause) (x : ℕ) → Worded c → Worded d → Worded (resolvent c d x)
unfolding resolvent
resolvent_words c d x w y = record {
  plain = length_join (without c.plain x) d.plain (length_without c.plain x ∙ w.plain ∙ sym y.plain) ∙ length_without c.plain x ∙ w.plain;
  negated = length_join c.negated (without d.negated x) (w.negated ∙ sym (length_without d.negated x ∙ y.negated)) ∙ w.negated;
}

-- the clause with one literal more, by its members
pub has_literal_plain : (c : Clause) (l : Literal) (v : ℕ) → Worded c → 1 ≤ l.variable → l.variable ≤ word_bits * set_words
    → has (with_literal c l).plain v ≡ ((not l.negated && eqb v l.variable) || has c.plain v)
unfolding with_literal
has_literal_plain c l v w lo hi = go l.negated refl
  where
    go : (b : Bool) → l.negated ≡ b → has (with_literal c l).plain v ≡ ((not l.negated && eqb v l.variable) || has c.plain v)
    go true e = rw (e, with_literal)
    go false e = rw (e, with_literal) (has_with c.plain l.variable v lo (rw w.plain hi))

pub has_literal_negated : (c : Clause) (l : Literal) (v : ℕ) → Worded c → 1 ≤ l.variable → l.variable ≤ word_bits * set_words
    → has (with_literal c l).negated v ≡ ((l.negated && eqb v l.variable) || has c.negated v)
unfolding with_literal
has_literal_negated c l v w lo hi = go l.negated refl
  where
    go : (b : Bool) → l.negated ≡ b → has (with_literal c l).negated v ≡ ((l.negated && eqb v l.variable) || has c.negated v)
    go true e = rw (e, with_literal) (has_with c.negated l.variable v lo (rw w.negated hi))
    go false e = rw (e, with_literal)

pub has_kept_plain : (es : Set) (c : Clause) (v : ℕ) → has (kept_by es c).plain v ≡ (has c.plain v && has es v)
unfolding kept_by
has_kept_plain es c v = has_only c.plain es v

pub has_kept_negated : (es : Set) (c : Clause) (v : ℕ) → has (kept_by es c).negated v ≡ (has c.negated v && has es v)
unfolding kept_by
has_kept_negated es c v = has_only c.negated es v

pub has_resolvent_plain : (c d : Clause) (x v : ℕ) → 1 ≤ x → x ≤ word_bits * length c.plain
    → has (resolvent c d x).plain v ≡ ((has c.plain v && not (eqb v x)) || has d.plain v)
unfolding resolvent
has_resolvent_plain c d x v lo hi = rw (has_join (without c.plain x) d.plain v, has_without c.plain x v lo hi)

pub has_resolvent_negated : (c d : Clause) (x v : ℕ) → 1 ≤ x → x ≤ word_bits * length d.negated
    → has (resolvent c d x).negated v ≡ (has c.negated v || (has d.negated v && not (eqb v x)))
unfolding resolvent
has_resolvent_negated c d x v lo hi = rw (has_join c.negated (without d.negated x) v, has_without d.negated x v lo hi)

-- a clause with a variable both ways, and one with none
pub two_faced_member : (c : Clause) → two_faced c ≡ true → (v : ℕ) × (has c.plain v ≡ true) × (has c.negated v ≡ true)
unfolding two_faced
two_faced_member c h = meet_member c.plain c.negated h

pub member_two_faced : (c : Clause) (v : ℕ) → has c.plain v ≡ true → has c.negated v ≡ true → two_faced c ≡ true
unfolding two_faced
member_two_faced c v p q = member_meet c.plain c.negated v p q

pub two_faced_has : (c : Clause) → two_faced c ≡ false → (v : ℕ) → has c.plain v ≡ true → has c.negated v ≡ true → ⊥
unfolding two_faced
two_faced_has c h = meet_has c.plain c.negated h

pub has_two_faced : (c : Clause) → ((v : ℕ) → has c.plain v ≡ true → has c.negated v ≡ true → ⊥) → two_faced c ≡ false
unfolding two_faced
has_two_faced c f = has_meet c.plain c.negated f

-- a clause without a literal
pub empty_clause_plain : (c : Clause) → empty_clause c ≡ true → (v : ℕ) → has c.plain v ≡ false
unfolding empty_clause
empty_clause_plain c h = empty_has c.plain (and_left (empty c.plain) (empty c.negated) h)

pub empty_clause_negated : (c : Clause) → empty_clause c ≡ true → (v : ℕ) → has c.negated v ≡ false
unfolding empty_clause
empty_clause_negated c h = empty_has c.negated (and_right (empty c.plain) (empty c.negated) h)

pub has_empty_clause : (c : Clause) → ((v : ℕ) → has c.plain v ≡ false) → ((v : ℕ) → has c.negated v ≡ false) → empty_clause c ≡ true
unfolding empty_clause
has_empty_clause c p q = rw (has_empty c.plain p, has_empty c.negated q)

-- a clause that is not empty has a literal
pub clause_member : (c : Clause) → empty_clause c ≡ false → (v : ℕ) × ((has c.plain v ≡ true) ⊎ (has c.negated v ≡ true))
unfolding empty_clause
clause_member c h = go (empty c.plain) refl
  where
    go : (b : Bool) → empty c.plain ≡ b → (v : ℕ) × ((has c.plain v ≡ true) ⊎ (has c.negated v ≡ true))
    go true e = let r = member c.negated (rw e at h) in (r.0, inr r.1)
    go false e = let r = member c.plain e in (r.0, inl r.1)

-- ---- m different numbers below n: m is at most n
abbrev Below : ℕ → ℕ → (ℕ → ℕ) → Type 0
Below m n f = (i : ℕ) → i < m → f i < n

abbrev Differ : ℕ → (ℕ → ℕ) → Type 0
Differ m f = (i j : ℕ) → i < m → j < m → f i ≡ f j → i ≡ j

-- the last value taken out: what stands at n takes its place
abbrev closed_up : (ℕ → ℕ) → ℕ → ℕ → ℕ → ℕ
closed_up f k n i = cond (eqb (f i) n) (f k) (f i)

closed_cases : (f : ℕ → ℕ) (k n i : ℕ) → ((f i ≡ n) × (closed_up f k n i ≡ f k)) ⊎ ((f i ≢ n) × (closed_up f k n i ≡ f i))
closed_cases f k n i = by_cases (ℕ_discrete (f i) n) (λ e. inl (e, rw (eq-eqb (f i) n e))) (λ e. inr (e, rw (ne_eqb (f i) n e)))

pub pigeonhole : (m n : ℕ) (f : ℕ → ℕ) → Below m n f → Differ m f → m ≤ n
pigeonhole zero n f b d = omega arith
pigeonhole (suc k) zero f b d = absurd (omega (arith, b k (omega arith)))
pigeonhole (suc k) (suc n) f b d = omega (arith, pigeonhole k n (closed_up f k n) below differ)
  where
    other : (i : ℕ) → i < k → f i ≡ f k → ⊥
    other i h e = omega (arith, d i k (omega arith) (omega arith) e)

    below : Below k n (closed_up f k n)
    below i h = split (closed_cases f k n i)
      where
        split : ((f i ≡ n) × (closed_up f k n i ≡ f k)) ⊎ ((f i ≢ n) × (closed_up f k n i ≡ f i)) → closed_up f k n i < n
        split (inl p) = let apart : f k ≢ n = λ q. other i h (p.0 ∙ sym q) in rw p.1 (omega (arith, b k (omega arith), apart))
        split (inr p) = rw p.1 (omega (arith, b i (omega arith), p.0))

    differ : Differ k (closed_up f k n)
    differ i j hi hj e = split (closed_cases f k n i) (closed_cases f k n j)
      where
        split : ((f i ≡ n) × (closed_up f k n i ≡ f k)) ⊎ ((f i ≢ n) × (closed_up f k n i ≡ f i))
            → ((f j ≡ n) × (closed_up f k n j ≡ f k)) ⊎ ((f j ≢ n) × (closed_up f k n j ≡ f j)) → i ≡ j
        split (inl p) (inl q) = d i j (omega arith) (omega arith) (p.0 ∙ sym q.0)
        split (inl p) (inr q) = absurd (other j hj (sym q.1 ∙ sym e ∙ p.1))
        split (inr p) (inl q) = absurd (other i hi (sym p.1 ∙ e ∙ q.1))
        split (inr p) (inr q) = d i j (omega arith) (omega arith) (sym p.1 ∙ e ∙ q.1)

-- a prefix of different variables 1 to n has at most n places
pub prefix_length : (Q : List Bound) (n : ℕ) → Distinct Q → ((i : ℕ) → i < length Q → (1 ≤ var_at Q i) × (var_at Q i ≤ n)) → length Q ≤ n
prefix_length Q n d r =
    pigeonhole (length Q) n (λ i. var_at Q i - 1) (λ i h. omega (arith, r i h)) (λ i j hi hj e. d i j hi hj (omega (arith, r i hi, r j hj)))

pub proper_length : (F : Formula) → Proper F → length F.prefix ≤ F.variables
proper_length F p = prefix_length F.prefix F.variables p.distinct p.in_range
