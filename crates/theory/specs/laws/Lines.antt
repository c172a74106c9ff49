-- Rows that all pass: what each line followed from, and that they keep to `Good`.
use Rattle.std.specs.Prelude.{Ok, Err, ◌≡◌, refl, Bool, true, false, not, ◌&&◌, ◌||◌, ◌↔◌, ◌⊎◌, ◌≢◌, ℕ, zero, suc, ◌+◌, ◌-◌, ◌^◌, ◌≤◌, ◌<◌, eqb, leb, ltb, length, get_or}
use Rattle.std.proofs.Common.{ap, sym, ◌∙◌, subst, true≢false, inl, inr, arith, zero-add, suc-add, add-suc, add-zero, length-append, ltb-true, ltb-false, leb-true, leb-false, lt-ltb, le-ltb, le-leb}
use Rattle.std.proofs.lemmas.Bool.{false≢true, not-false, lt-leb}
use mathlib.Core.List.{List, [], ◌∷◌, ◌++◌, Memᴰ}
use Rattle.std.proofs.Math.Logic.{by_cases}
use Rattle.std.proofs.Math.Decide.{dec_le}
use Rattle.std.proofs.Math.ListN.{get_or-append, get_or-eq_default}
use Rattle.std.proofs.Math.Seq.{get_or-append_seam}
use Rattle.rules.specs.declared.Node.TheVariants.{None, Leaf, Branch}
use Rattle.rules.specs.declared.Value.{Value}
use Rattle.rules.specs.declared.Resolution.{Resolution}
use Rattle.rules.specs.declared.Line.{Line}
use Rattle.rules.specs.declared.Line.TheVariants as L
use Rattle.rules.specs.definitions.File.{Decoded}
use Rattle.rules.specs.definitions.Sets.{Set, has}
use Rattle.theory.specs.laws.Sets.{and_left, and_right, or_cases, has_range}
use Rattle.theory.specs.laws.Formula.{proper_fits, length_existentials, has_existentials, Worded, kept_words, resolvent_words, has_kept_plain, has_kept_negated, has_resolvent_plain, has_resolvent_negated}
use Rattle.rules.specs.definitions.Faults.{Fault, Found, first_of}
use Rattle.rules.specs.definitions.Faults.Found.{passes, fails}
use Rattle.rules.specs.definitions.Formula.{Clause, Formula, bound_by, universals, existentials, no_literal, resolvent}
use Rattle.rules.specs.definitions.Formula.Quant.{exists}
use Rattle.rules.specs.definitions.Maps.{Column, star?}
use Rattle.rules.specs.statements.Sound.{Falling, Positive, Sound}
use Rattle.theory.specs.laws.Maps.{sound_from, branch≢none, leaf≢none, leaf≢branch}
use Rattle.rules.specs.definitions.Lines.{Entry, Row, falsifying, leaf_entry, earlier, axiom_faults, unless_found, no_entry, no_row, row_at, clause_at, column, root_at, each, Rules, clause_number, axiom_row, select, defined, kept_root, in_set, selected, map_fault, map_entry, resolution_row, parent_faults, set_faults, result_faults, map_faults, Made, line_faults, line_row, line_made, decoded_made, next_line}
use Rattle.rules.specs.definitions.Lines.Made.{made, refused}
use Rattle.rules.specs.definitions.Checking.{lines_from, all_lines}
use Rattle.rules.specs.definitions.Checking.Passed.{passed, stopped}
use Rattle.rules.specs.statements.Proper.{Proper}
use Rattle.rules.specs.statements.Good.{GoodBranch, GoodEntry, GoodLine, Good}
use Rattle.rules.specs.statements.Follows.{MapsFollow, ParentsFollow, Resolves, Follows, Derived}
use Rattle.rules.specs.statements.Follows.Derived.{start, line}

-- ---- one row more: earlier rows stay, the new one is the last, and past it there is none
pub row_before : (rows : List Row) (row : Row) (i : ℕ) → i ≤ length rows → row_at (rows ++ (row ∷ [])) i ≡ row_at rows i
unfolding row_at
row_before rows row zero h = refl
row_before rows row (suc i) h = get_or-append rows (row ∷ []) no_row i h

pub row_new : (rows : List Row) (row : Row) → row_at (rows ++ (row ∷ [])) (suc (length rows)) ≡ row
unfolding row_at
row_new rows row = get_or-append_seam rows row [] no_row

pub row_past : (rows : List Row) (i : ℕ) → length rows < i → row_at rows i ≡ no_row
unfolding row_at
row_past rows zero h = absurd (omega arith)
row_past rows (suc i) h = get_or-eq_default rows no_row {n = i} (omega arith)

pub rows_grown : (rows : List Row) (row : Row) → length (rows ++ (row ∷ [])) ≡ suc (length rows)
rows_grown rows row = length-append rows (row ∷ []) ∙ omega arith

pub clause_before : (rows : List Row) (row : Row) (i : ℕ) → i ≤ length rows → clause_at (rows ++ (row ∷ [])) i ≡ clause_at rows i
clause_before rows row i h = ap (λ (r : Row). r.clause) (row_before rows row i h)

pub column_before : (rows : List Row) (row : Row) (j i : ℕ) → i ≤ length rows → column (rows ++ (row ∷ [])) j i ≡ column rows j i
column_before rows row j i h = ap (λ (r : Row). (get_or r.entries j no_entry).node) (row_before rows row i h)

pub root_before : (rows : List Row) (row : Row) (j i : ℕ) → i ≤ length rows → root_at (rows ++ (row ∷ [])) j i ≡ root_at rows j i
root_before rows row j i h = ap (λ (r : Row). (get_or r.entries j no_entry).root) (row_before rows row i h)

-- the last row's clause, node and root
pub clause_new : (rows : List Row) (row : Row) → clause_at (rows ++ (row ∷ [])) (suc (length rows)) ≡ row.clause
clause_new rows row = ap (λ (r : Row). r.clause) (row_new rows row)

pub column_new : (rows : List Row) (row : Row) (j : ℕ) → column (rows ++ (row ∷ [])) j (suc (length rows)) ≡ (get_or row.entries j no_entry).node
column_new rows row j = ap (λ (r : Row). (get_or r.entries j no_entry).node) (row_new rows row)

pub root_new : (rows : List Row) (row : Row) (j : ℕ) → root_at (rows ++ (row ∷ [])) j (suc (length rows)) ≡ (get_or row.entries j no_entry).root
root_new rows row j = ap (λ (r : Row). (get_or r.entries j no_entry).root) (row_new rows row)

-- past the last row, and at 0, there is no node
pub column_past : (rows : List Row) (j i : ℕ) → length rows < i → column rows j i ≡ None
column_past rows j i h = ap (λ (r : Row). (get_or r.entries j no_entry).node) (row_past rows i h)

pub column_zero : (rows : List Row) (j : ℕ) → column rows j zero ≡ None
unfolding row_at
column_zero rows j = refl

-- ---- one entry for each universal
pub each_length {ℓ} : {A : Type ℓ} (f : ℕ → ℕ → A) (us : List ℕ) (j : ℕ) → length (each f us j) ≡ length us
unfolding each
each_length f [] j = refl
each_length f (u ∷ us) j = ap suc (each_length f us (suc j))

each_from {ℓ} : {A : Type ℓ} (f : ℕ → ℕ → A) (us : List ℕ) (j k : ℕ) (d : A) → k < length us → get_or (each f us j) k d ≡ f (j + k) (get_or us k 0)
unfolding each
each_from f [] j k d h = absurd (omega arith)
each_from f (u ∷ us) j zero d h = ap (λ (n : ℕ). f n u) (sym (add-zero j))
each_from f (u ∷ us) j (suc k) d h = each_from f us (suc j) k d (omega arith) ∙ ap (λ (n : ℕ). f n (get_or us k 0)) (suc-add j k ∙ sym (add-suc j k))

pub each_at {ℓ} : {A : Type ℓ} (f : ℕ → ℕ → A) (us : List ℕ) (j : ℕ) (d : A) → j < length us → get_or (each f us 0) j d ≡ f j (get_or us j 0)
each_at f us j d h = each_from f us 0 j d h ∙ ap (λ (n : ℕ). f n (get_or us j 0)) (zero-add j)

-- ---- a list of tests passes where each of its tests does
pub fails≢passes : {n v : ℕ} → fails n v ≡ passes → ⊥
fails≢passes e = let z : ◌≡◌ {A = ℕ} 0 1 = cc in omega arith

pub passes_cons : (f : Fault) (fs : List Fault) → (first_of (f ∷ fs) ≡ passes) ↔ ((f.when ≡ false) × (first_of fs ≡ passes))
unfolding first_of
passes_cons f fs = (to f.when refl, λ p. rw p.0 p.1)
  where
    to : (t : Bool) → f.when ≡ t → first_of (f ∷ fs) ≡ passes → (f.when ≡ false) × (first_of fs ≡ passes)
    to true e h = absurd (fails≢passes (rw e at h))
    to false e h = (e, rw e at h)

cons_append : (f : Fault) (fs gs : List Fault)
    → (first_of (fs ++ gs) ≡ passes) ↔ ((first_of fs ≡ passes) × (first_of gs ≡ passes))
    → (first_of (f ∷ (fs ++ gs)) ≡ passes) ↔ ((first_of (f ∷ fs) ≡ passes) × (first_of gs ≡ passes))
cons_append f fs gs rest = (to, from)
  where
    to : first_of (f ∷ (fs ++ gs)) ≡ passes → (first_of (f ∷ fs) ≡ passes) × (first_of gs ≡ passes)
    to h = let p = (passes_cons f (fs ++ gs)).0 h in let q = rest.0 p.1 in ((passes_cons f fs).1 (p.0, q.0), q.1)

    from : (first_of (f ∷ fs) ≡ passes) × (first_of gs ≡ passes) → first_of (f ∷ (fs ++ gs)) ≡ passes
    from p = let q = (passes_cons f fs).0 p.0 in (passes_cons f (fs ++ gs)).1 (q.0, rest.1 (q.1, p.1))

pub passes_append : (fs gs : List Fault) → (first_of (fs ++ gs) ≡ passes) ↔ ((first_of fs ≡ passes) × (first_of gs ≡ passes))
unfolding first_of
passes_append [] gs = (λ h. (refl, h), λ p. p.1)
passes_append (f ∷ fs) gs = cons_append f fs gs (passes_append fs gs)

passes_each_from : (f : ℕ → ℕ → Fault) (us : List ℕ) (j : ℕ) → first_of (each f us j) ≡ passes → (k : ℕ) → k < length us → (f (j + k) (get_or us k 0)).when ≡ false
unfolding each
passes_each_from f [] j h k l = absurd (omega arith)
passes_each_from f (u ∷ us) j h zero l = ap (λ (n : ℕ). (f n u).when) (add-zero j) ∙ ((passes_cons (f j u) (each f us (suc j))).0 h).0
passes_each_from f (u ∷ us) j h (suc k) l =
    ap (λ (n : ℕ). (f n (get_or us k 0)).when) (add-suc j k ∙ sym (suc-add j k))
    ∙ passes_each_from f us (suc j) ((passes_cons (f j u) (each f us (suc j))).0 h).1 k (omega arith)

each_passes_from : (f : ℕ → ℕ → Fault) (us : List ℕ) (j : ℕ) → ((k : ℕ) → k < length us → (f (j + k) (get_or us k 0)).when ≡ false) → first_of (each f us j) ≡ passes
unfolding each first_of
each_passes_from f [] j h = refl
each_passes_from f (u ∷ us) j h =
    (passes_cons (f j u) (each f us (suc j))).1 (
      ap (λ (n : ℕ). (f n u).when) (sym (add-zero j)) ∙ h 0 (omega arith),
      each_passes_from f us (suc j) (λ k l. ap (λ (n : ℕ). (f n (get_or us k 0)).when) (suc-add j k ∙ sym (add-suc j k)) ∙ h (suc k) (omega arith)),
    )

pub passes_each : (f : ℕ → ℕ → Fault) (us : List ℕ) → (first_of (each f us 0) ≡ passes) ↔ ((j : ℕ) → j < length us → (f j (get_or us j 0)).when ≡ false)
passes_each f us = (
  λ h j l. ap (λ (n : ℕ). (f n (get_or us j 0)).when) (sym (zero-add j)) ∙ passes_each_from f us 0 h j l,
  λ h. each_passes_from f us 0 (λ k l. ap (λ (n : ℕ). (f n (get_or us k 0)).when) (zero-add k) ∙ h k l),
)

-- where neither test holds
pub neither : (a b : Bool) → (a || b) ≡ false → (a ≡ false) × (b ≡ false)
neither true b h = absurd (true≢false h)
neither false b h = (refl, h)

-- a line before line i
pub earlier_iff : (i a : ℕ) → (earlier i a ≡ true) ↔ ((1 ≤ a) × (a < i))
earlier_iff i a = (
  λ h. (leb-true 1 a (and_left (leb 1 a) (ltb a i) h), ltb-true a i (and_right (leb 1 a) (ltb a i) h)),
  λ p. rw (le-leb 1 a p.0, lt-ltb a i p.1),
)

pub axiom_passes : (F : Formula) (c : ℕ) → (first_of (axiom_faults F c) ≡ passes) ↔ ((1 ≤ c) × (c ≤ length F.matrix))
unfolding first_of
axiom_passes F c = (to, λ p. rw (le-ltb c 1 p.0, le-ltb (length F.matrix) c p.1))
  where
    to : first_of (axiom_faults F c) ≡ passes → (1 ≤ c) × (c ≤ length F.matrix)
    to h = let p = neither (ltb c 1) (ltb (length F.matrix) c) ((passes_cons _ []).0 h).0 in (ltb-false c 1 p.0, ltb-false (length F.matrix) c p.1)

four_pass : (f g h k : Fault) → first_of (f ∷ g ∷ h ∷ k ∷ []) ≡ passes → (f.when ≡ false) × (g.when ≡ false) × (h.when ≡ false) × (k.when ≡ false)
four_pass f g h k e =
    let p = (passes_cons f (g ∷ h ∷ k ∷ [])).0 e in
    let q = (passes_cons g (h ∷ k ∷ [])).0 p.1 in
    let s = (passes_cons h (k ∷ [])).0 q.1 in
    (p.0, q.0, s.0, ((passes_cons k []).0 s.1).0)

passed_parents : (F : Formula) (rows : List Row) (i : ℕ) (r : Resolution) → first_of (parent_faults F rows i r) ≡ passes → ParentsFollow F rows i r
passed_parents F rows i r h =
    let p = four_pass _ _ _ _ h in
    let e = neither (not (earlier i r.a)) (not (earlier i r.b)) p.0 in
    record {
      a_earlier = (earlier_iff i r.a).0 (not-false (earlier i r.a) e.0);
      b_earlier = (earlier_iff i r.b).0 (not-false (earlier i r.b) e.1);
      pivot = not-false (bound_by exists F.prefix r.pivot) p.1;
      plain = not-false (has (clause_at rows r.a).plain r.pivot) p.2;
      negated = not-false (has (clause_at rows r.b).negated r.pivot) p.3;
    }

pub parents_pass : (F : Formula) (rows : List Row) (i : ℕ) (r : Resolution) → (first_of (parent_faults F rows i r) ≡ passes) ↔ ParentsFollow F rows i r
unfolding first_of
parents_pass F rows i r = (passed_parents F rows i r, from)
  where
    from : ParentsFollow F rows i r → first_of (parent_faults F rows i r) ≡ passes
    from p = rw (le-leb 1 r.a p.a_earlier.0, lt-ltb r.a i p.a_earlier.1, le-leb 1 r.b p.b_earlier.0, lt-ltb r.b i p.b_earlier.1, p.pivot, p.plain, p.negated)

pub maps_pass : (R : Rules) (F : Formula) (rows : List Row) (r : Resolution) (chosen : ℕ → Bool) → (first_of (map_faults R F rows r chosen) ≡ passes) ↔ MapsFollow R F rows r chosen
maps_pass R F rows r chosen = (to, from)
  where
    us : List ℕ
    us = universals F.prefix

    iff : (first_of (map_faults R F rows r chosen) ≡ passes) ↔ ((j : ℕ) → j < length us → (map_fault R rows r chosen j (get_or us j 0)).when ≡ false)
    iff = passes_each (map_fault R rows r chosen) us

    to : first_of (map_faults R F rows r chosen) ≡ passes → MapsFollow R F rows r chosen
    to h = record {
      left = λ j l e. not-false (R.left r.pivot (get_or us j 0)) (rw (map_fault, e) at (iff.0 h j l));
      selects = λ j l e. not-false (defined (selected R rows r j)) (rw (map_fault, e) at (iff.0 h j l));
    }

    at : MapsFollow R F rows r chosen → (j : ℕ) → j < length us → (t : Bool) → chosen j ≡ t → (map_fault R rows r chosen j (get_or us j 0)).when ≡ false
    at m j l true e = rw (map_fault, e, m.left j l e)
    at m j l false e = rw (map_fault, e, m.selects j l e)

    from : MapsFollow R F rows r chosen → first_of (map_faults R F rows r chosen) ≡ passes
    from m = iff.1 (λ j l. at m j l (chosen j) refl)

pub resolution_passes : (R : Rules) (F : Formula) (rows : List Row) (i : ℕ) (r : Resolution)
    → (first_of (line_faults R F rows i (L.Resolve r)) ≡ passes) ↔ Resolves R F rows i r
unfolding line_faults first_of
resolution_passes R F rows i r = (to, from)
  where
    ps : List Fault
    ps = parent_faults F rows i r

    ss : List Fault
    ss = set_faults F r.merge

    ms : List Fault
    ms = map_faults R F rows r (in_set r.merge)

    to : first_of (line_faults R F rows i (L.Resolve r)) ≡ passes → Resolves R F rows i r
    to h =
        let p = (passes_append ps (ss ++ (result_faults rows r ++ ms))).0 h in
        let q = (passes_append ss (result_faults rows r ++ ms)).0 p.1 in
        let s = (passes_append (result_faults rows r) ms).0 q.1 in
        record {
          parents = (parents_pass F rows i r).0 p.0;
          merge = leb-false (2 ^ length (universals F.prefix)) r.merge ((passes_cons _ []).0 q.0).0;
          one_way = ((passes_cons _ []).0 s.0).0;
          maps = (maps_pass R F rows r (in_set r.merge)).0 s.1;
        }

    from : Resolves R F rows i r → first_of (line_faults R F rows i (L.Resolve r)) ≡ passes
    from p =
        (passes_append ps (ss ++ (result_faults rows r ++ ms))).1 (
          (parents_pass F rows i r).1 p.parents,
          (passes_append ss (result_faults rows r ++ ms)).1 (
            rw (lt-leb (2 ^ length (universals F.prefix)) r.merge p.merge),
            (passes_append (result_faults rows r) ms).1 (rw p.one_way, (maps_pass R F rows r (in_set r.merge)).1 p.maps),
          ),
        )

pub refused≢made : {n v : ℕ} {row : Row} → refused n v ≡ made row → ⊥
refused≢made e = let z : ◌≡◌ {A = ℕ} 0 1 = cc in omega arith

made_row : {row row' : Row} → made row ≡ made row' → row ≡ row'
made_row e = cc

-- what comes of the tests is a row exactly where they pass
pub unless_made : (t : Found) (row row' : Row) → (unless_found t row ≡ made row') ↔ ((t ≡ passes) × (row' ≡ row))
unless_made passes row row' = (λ e. (refl, sym (made_row e)), λ p. ap (λ (x : Row). made x) (sym p.1))
unless_made (fails n v) row row' = (λ e. absurd (refused≢made e), λ p. absurd (fails≢passes p.0))

-- a line makes a row exactly where it follows
pub line_follows : (R : Rules) (F : Formula) (rows : List Row) (i : ℕ) (l : Line) (row : Row) → (line_made R F rows i l ≡ made row) ↔ Follows R F rows i l row
unfolding line_made line_row line_faults
line_follows R F rows i (L.Axiom c) row = (to, from)
  where
    iff : (unless_found (first_of (axiom_faults F c)) (axiom_row F i c) ≡ made row) ↔ ((first_of (axiom_faults F c) ≡ passes) × (row ≡ axiom_row F i c))
    iff = unless_made (first_of (axiom_faults F c)) (axiom_row F i c) row

    to : line_made R F rows i (L.Axiom c) ≡ made row → Follows R F rows i (L.Axiom c) row
    to e = let p = iff.0 e in ((axiom_passes F c).0 p.0, p.1)

    from : Follows R F rows i (L.Axiom c) row → line_made R F rows i (L.Axiom c) ≡ made row
    from p = iff.1 ((axiom_passes F c).1 p.0, p.1)
line_follows R F rows i (L.Resolve r) row = (to, from)
  where
    tests : Found
    tests = first_of (line_faults R F rows i (L.Resolve r))

    iff : (unless_found tests (resolution_row R F rows i r (in_set r.merge)) ≡ made row) ↔ ((tests ≡ passes) × (row ≡ resolution_row R F rows i r (in_set r.merge)))
    iff = unless_made tests (resolution_row R F rows i r (in_set r.merge)) row

    to : line_made R F rows i (L.Resolve r) ≡ made row → Follows R F rows i (L.Resolve r) row
    to e = let p = iff.0 e in ((resolution_passes R F rows i r).0 p.0, p.1)

    from : Follows R F rows i (L.Resolve r) row → line_made R F rows i (L.Resolve r) ≡ made row
    from p = iff.1 ((resolution_passes R F rows i r).1 p.0, p.1)

-- ---- what select keeps: b's root where a's map is one star leaf; else a's, where b's is or the third ground holds
pub data Selects (third_ground : Column → ℕ → ℕ → Bool) (T : Column) (a b : ℕ) : ℕ → Type 0 where
  second : star? (T a) ≡ true → Selects third_ground T a b b
  first : star? (T a) ≡ false → star? (T b) ≡ true → Selects third_ground T a b a
  third : star? (T a) ≡ false → star? (T b) ≡ false → third_ground T a b ≡ true → Selects third_ground T a b a

pub select_keeps : (third_ground : Column → ℕ → ℕ → Bool) (T : Column) (a b : ℕ) → defined (select third_ground T a b) ≡ true → Selects third_ground T a b (kept_root (select third_ground T a b))
unfolding select
select_keeps third_ground T a b = by (star? (T a)) refl (star? (T b)) refl (third_ground T a b) refl
  where
    by : (p : Bool) → star? (T a) ≡ p → (q : Bool) → star? (T b) ≡ q → (o : Bool) → third_ground T a b ≡ o
        → defined (select third_ground T a b) ≡ true → Selects third_ground T a b (kept_root (select third_ground T a b))
    by true p q e o f h = rw (select, p) (second p)
    by false p true q o f h = rw (select, p, q) (first p q)
    by false p false q true o h = rw (select, p, q, o) (third p q o)
    by false p false q false o h = absurd (false≢true (rw (select, p, q, o) at h))

-- ---- a clause of the matrix by its number
pub numbered_in : {A : Type 0} (l : List A) (c : ℕ) (d : A) → c < length l → Memᴰ (get_or l c d) l
numbered_in [] c d h = absurd (omega arith)
numbered_in (x ∷ l) zero d h = Memᴰ.head refl
numbered_in (x ∷ l) (suc c) d h = Memᴰ.tail (numbered_in l c d (omega arith))

pub clause_in : (F : Formula) (c : ℕ) → 1 ≤ c → c ≤ length F.matrix → Memᴰ (clause_number F c) F.matrix
clause_in F c p q = numbered_in F.matrix (c - 1) no_literal (omega arith)

-- ---- rows that all pass are good
-- a line that is good stays so when one more row is made
pub good_kept : (R : Rules) (F : Formula) (rows : List Row) (row : Row) (i : ℕ) → i ≤ length rows → GoodLine R F rows i → GoodLine R F (rows ++ (row ∷ [])) i
good_kept R F rows row i h g = record {
  entries = rw (row_before rows row i h) g.entries;
  entry = entry;
  plain = rw (clause_before rows row i h) g.plain;
  negated = rw (clause_before rows row i h) g.negated;
  plain_words = rw (clause_before rows row i h) g.plain_words;
  negated_words = rw (clause_before rows row i h) g.negated_words;
}
  where
    rows' : List Row
    rows' = rows ++ (row ∷ [])

    entry : (j : ℕ) → j < length (universals F.prefix) → GoodEntry R F rows' i j
    entry j l = record {
      root = rw (root_before rows row j i h) e.root;
      rooted = λ z. e.rooted (sym (ap (column rows' j) (root_before rows row j i h) ∙ column_before rows row j (root_at rows j i) (omega (arith, e.root))) ∙ z);
      branch = branch;
    }
      where
        e : GoodEntry R F rows i j
        e = g.entry j l

        branch : (x a b : ℕ) → column rows' j i ≡ Branch x a b → GoodBranch R F (column rows' j) (get_or (universals F.prefix) j 0) i x a b
        branch x a b p = record {
          existential = n.existential;
          left = n.left;
          low = (n.low.0, n.low.1, λ z. n.low.2 (sym (column_before rows row j a (omega (arith, n.low))) ∙ z));
          high = (n.high.0, n.high.1, λ z. n.high.2 (sym (column_before rows row j b (omega (arith, n.high))) ∙ z));
        }
          where
            n : GoodBranch R F (column rows j) (get_or (universals F.prefix) j 0) i x a b
            n = e.branch x a b (sym (column_before rows row j i h) ∙ p)

-- a new line's entry for u, after n rows whose column is T: a leaf, a branch to nodes of theirs, or a root of theirs and no node
data NewEntry (R : Rules) (F : Formula) (T : Column) (n u : ℕ) : Entry → Type 0 where
  leaf : (v : Value) → NewEntry R F T n u (record { node = Leaf v; root = suc n })
  branch : (x a b : ℕ) → GoodBranch R F T u (suc n) x a b → NewEntry R F T n u (record { node = Branch x a b; root = suc n })
  old : (r : ℕ) → (1 ≤ r) × (r ≤ n) × (T r ≢ None) → NewEntry R F T n u (record { node = None; root = r })

-- such an entry is good in the rows with the new one
new_entry : (R : Rules) (F : Formula) (rows : List Row) (row : Row) (j : ℕ) (e : Entry)
    → column (rows ++ (row ∷ [])) j (suc (length rows)) ≡ e.node → root_at (rows ++ (row ∷ [])) j (suc (length rows)) ≡ e.root
    → NewEntry R F (column rows j) (length rows) (get_or (universals F.prefix) j 0) e → GoodEntry R F (rows ++ (row ∷ [])) (suc (length rows)) j
new_entry R F rows row j _ en er (leaf v) = record {
  root = (omega arith, omega arith);
  rooted = λ z. leaf≢none (sym (ap (column (rows ++ (row ∷ [])) j) er ∙ en) ∙ z);
  branch = λ x a b p. absurd (leaf≢branch (sym en ∙ p));
}
new_entry R F rows row j _ en er (branch x a b g) = record {
  root = (omega arith, omega arith);
  rooted = λ z. branch≢none (sym (ap (column (rows ++ (row ∷ [])) j) er ∙ en) ∙ z);
  branch = λ y c d p. at y c d (sym en ∙ p);
}
  where
    at : (y c d : ℕ) → Branch x a b ≡ Branch y c d → GoodBranch R F (column (rows ++ (row ∷ [])) j) (get_or (universals F.prefix) j 0) (suc (length rows)) y c d
    at y c d p =
        let ex : x ≡ y = cc in
        let ea : a ≡ c = cc in
        let eb : b ≡ d = cc in
        record {
          existential = rw (← ex) g.existential;
          left = rw (← ex) g.left;
          low = rw (← ea) (g.low.0, g.low.1, λ z. g.low.2 (sym (column_before rows row j a (omega (arith, g.low))) ∙ z));
          high = rw (← eb) (g.high.0, g.high.1, λ z. g.high.2 (sym (column_before rows row j b (omega (arith, g.high))) ∙ z));
        }
new_entry R F rows row j _ en er (old r h) = record {
  root = (omega (arith, h), omega (arith, h));
  rooted = λ z. h.2 (sym (ap (column (rows ++ (row ∷ [])) j) er ∙ column_before rows row j r (omega (arith, h))) ∙ z);
  branch = λ x a b p. absurd (branch≢none (sym p ∙ en));
}

-- a new line: existential literals in so many words, and an entry for each universal
record GoodNew (R : Rules) (F : Formula) (rows : List Row) (row : Row) : Type 0 where
  entries : length row.entries ≡ length (universals F.prefix)
  plain : (v : ℕ) → has row.clause.plain v ≡ true → bound_by exists F.prefix v ≡ true
  negated : (v : ℕ) → has row.clause.negated v ≡ true → bound_by exists F.prefix v ≡ true
  words : Worded row.clause
  entry : (j : ℕ) → j < length (universals F.prefix)
      → NewEntry R F (column rows j) (length rows) (get_or (universals F.prefix) j 0) (get_or row.entries j no_entry)

good_more : (R : Rules) (F : Formula) (rows : List Row) (row : Row) → Good R F rows → GoodNew R F rows row → Good R F (rows ++ (row ∷ []))
good_more R F rows row g n i p q =
    by_cases (dec_le i (length rows)) (λ l. good_kept R F rows row i l (g i p l))
    (λ l. let e : i ≡ suc (length rows) = omega (arith, rows_grown rows row) in rw e last)
  where
    last : GoodLine R F (rows ++ (row ∷ [])) (suc (length rows))
    last = record {
      entries = rw (row_new rows row) n.entries;
      entry = λ j l. new_entry R F rows row j (get_or row.entries j no_entry) (column_new rows row j) (root_new rows row j) (n.entry j l);
      plain = rw (clause_new rows row) n.plain;
      negated = rw (clause_new rows row) n.negated;
      plain_words = rw (clause_new rows row) n.words.plain;
      negated_words = rw (clause_new rows row) n.words.negated;
    }

-- ---- the two kinds of line
axiom_good : (R : Rules) (F : Formula) → Proper F → (rows : List Row) (c : ℕ) → 1 ≤ c → c ≤ length F.matrix → GoodNew R F rows (axiom_row F (suc (length rows)) c)
unfolding axiom_row
axiom_good R F proper rows c p q = record {
  entries = each_length (leaf_entry C (suc (length rows))) (universals F.prefix) 0;
  plain = λ v h. existential v (and_right (has C.plain v) (has es v) (sym (has_kept_plain es C v) ∙ h));
  negated = λ v h. existential v (and_right (has C.negated v) (has es v) (sym (has_kept_negated es C v) ∙ h));
  words = kept_words es C (length_existentials F.prefix) (record { plain = proper.plain_words C (clause_in F c p q); negated = proper.negated_words C (clause_in F c p q) });
  entry = λ j l. rw (each_at (leaf_entry C (suc (length rows))) (universals F.prefix) j no_entry l) (leaf (falsifying C (get_or (universals F.prefix) j 0)));
}
  where
    C : Clause
    C = clause_number F c

    es : Set
    es = existentials F.prefix

    existential : (v : ℕ) → has es v ≡ true → bound_by exists F.prefix v ≡ true
    existential v h = sym (has_existentials F.prefix (proper_fits F proper) v) ∙ h

-- a literal of the resolvent is one of a parent
resolvent_plain_from : (c d : Clause) (x v : ℕ) → has c.plain x ≡ true → has (resolvent c d x).plain v ≡ true → (has c.plain v ≡ true) ⊎ (has d.plain v ≡ true)
resolvent_plain_from c d x v hx h =
    at (or_cases (has c.plain v && not (eqb v x)) (has d.plain v) (sym (has_resolvent_plain c d x v (has_range c.plain x hx).0 (has_range c.plain x hx).1) ∙ h))
  where
    at : ((has c.plain v && not (eqb v x)) ≡ true) ⊎ (has d.plain v ≡ true) → (has c.plain v ≡ true) ⊎ (has d.plain v ≡ true)
    at (inl e) = inl (and_left (has c.plain v) (not (eqb v x)) e)
    at (inr e) = inr e

resolvent_negated_from : (c d : Clause) (x v : ℕ) → has d.negated x ≡ true → has (resolvent c d x).negated v ≡ true → (has c.negated v ≡ true) ⊎ (has d.negated v ≡ true)
resolvent_negated_from c d x v hx h =
    at (or_cases (has c.negated v) (has d.negated v && not (eqb v x)) (sym (has_resolvent_negated c d x v (has_range d.negated x hx).0 (has_range d.negated x hx).1) ∙ h))
  where
    at : (has c.negated v ≡ true) ⊎ ((has d.negated v && not (eqb v x)) ≡ true) → (has c.negated v ≡ true) ⊎ (has d.negated v ≡ true)
    at (inl e) = inl e
    at (inr e) = inr (and_left (has d.negated v) (not (eqb v x)) e)

-- a good line's clause has its words
pub good_words : (R : Rules) (F : Formula) (rows : List Row) (i : ℕ) → GoodLine R F rows i → Worded (clause_at rows i)
good_words R F rows i g = record { plain = g.plain_words; negated = g.negated_words }

-- an earlier line's root names a node of the rows
parent_root : (R : Rules) (F : Formula) (rows : List Row) → Good R F rows → (a j : ℕ) → 1 ≤ a → a < suc (length rows) → j < length (universals F.prefix)
    → (1 ≤ root_at rows j a) × (root_at rows j a ≤ length rows) × (column rows j (root_at rows j a) ≢ None)
parent_root R F rows g a j p q l = (e.root.0, omega (arith, e.root), e.rooted)
  where
    e : GoodEntry R F rows a j
    e = (g a p (omega arith)).entry j l

resolution_good : (R : Rules) (F : Formula) (rows : List Row) → Good R F rows → (r : Resolution) (chosen : ℕ → Bool)
    → ParentsFollow F rows (suc (length rows)) r → MapsFollow R F rows r chosen → GoodNew R F rows (resolution_row R F rows (suc (length rows)) r chosen)
unfolding resolution_row
resolution_good R F rows g r chosen ps ms = record {
  entries = each_length (map_entry R rows (suc (length rows)) r chosen) us 0;
  plain = λ v h. either_plain v (resolvent_plain_from A B r.pivot v ps.plain h);
  negated = λ v h. either_negated v (resolvent_negated_from A B r.pivot v ps.negated h);
  words = resolvent_words A B r.pivot (good_words R F rows r.a ga) (good_words R F rows r.b gb);
  entry = λ j l. rw (each_at (map_entry R rows (suc (length rows)) r chosen) us j no_entry l) (entry j l (chosen j) refl);
}
  where
    us : List ℕ
    us = universals F.prefix

    A : Clause
    A = clause_at rows r.a

    B : Clause
    B = clause_at rows r.b

    ga : GoodLine R F rows r.a
    ga = g r.a ps.a_earlier.0 (omega (arith, ps.a_earlier))

    gb : GoodLine R F rows r.b
    gb = g r.b ps.b_earlier.0 (omega (arith, ps.b_earlier))

    either_plain : (v : ℕ) → (has A.plain v ≡ true) ⊎ (has B.plain v ≡ true) → bound_by exists F.prefix v ≡ true
    either_plain v (inl h) = ga.plain v h
    either_plain v (inr h) = gb.plain v h

    either_negated : (v : ℕ) → (has A.negated v ≡ true) ⊎ (has B.negated v ≡ true) → bound_by exists F.prefix v ≡ true
    either_negated v (inl h) = ga.negated v h
    either_negated v (inr h) = gb.negated v h

    entry : (j : ℕ) → j < length us → (t : Bool) → chosen j ≡ t
        → NewEntry R F (column rows j) (length rows) (get_or us j 0) (map_entry R rows (suc (length rows)) r chosen j (get_or us j 0))
    entry j l true e =
        rw (map_entry, e)
        (branch r.pivot (root_at rows j r.a) (root_at rows j r.b)
        (record {
          existential = ps.pivot;
          left = ms.left j l e;
          low = (ra.0, omega (arith, ra.1), ra.2);
          high = (rb.0, omega (arith, rb.1), rb.2);
        }))
      where
        ra : (1 ≤ root_at rows j r.a) × (root_at rows j r.a ≤ length rows) × (column rows j (root_at rows j r.a) ≢ None)
        ra = parent_root R F rows g r.a j ps.a_earlier.0 ps.a_earlier.1 l

        rb : (1 ≤ root_at rows j r.b) × (root_at rows j r.b ≤ length rows) × (column rows j (root_at rows j r.b) ≢ None)
        rb = parent_root R F rows g r.b j ps.b_earlier.0 ps.b_earlier.1 l
    entry j l false e =
        rw (map_entry, e) (old (kept_root (selected R rows r j)) (pick (kept_root (selected R rows r j)) (select_keeps R.third_ground (column rows j) (root_at rows j r.a) (root_at rows j r.b) (ms.selects j l e))))
      where
        pick : (k : ℕ) → Selects R.third_ground (column rows j) (root_at rows j r.a) (root_at rows j r.b) k → (1 ≤ k) × (k ≤ length rows) × (column rows j k ≢ None)
        pick k (second p) = parent_root R F rows g r.b j ps.b_earlier.0 ps.b_earlier.1 l
        pick k (first p q) = parent_root R F rows g r.a j ps.a_earlier.0 ps.a_earlier.1 l
        pick k (third p q o) = parent_root R F rows g r.a j ps.a_earlier.0 ps.a_earlier.1 l

-- a line that follows keeps the rows good
pub good_follows : (R : Rules) (F : Formula) (rows : List Row) (l : Line) (row : Row) → Proper F → Good R F rows → Follows R F rows (suc (length rows)) l row → Good R F (rows ++ (row ∷ []))
good_follows R F rows (L.Axiom c) row proper g f = good_more R F rows row g (rw f.1 (axiom_good R F proper rows c f.0.0 f.0.1))
good_follows R F rows (L.Resolve r) row proper g f = good_more R F rows row g (rw f.1 (resolution_good R F rows g r (in_set r.merge) f.0.parents f.0.maps))

decoded_follows : (R : Rules) (F : Formula) (rows : List Row) (d : Decoded) (row : Row) → decoded_made R F rows (suc (length rows)) d ≡ made row
    → (l : Line) × (d ≡ Ok l) × Follows R F rows (suc (length rows)) l row
decoded_follows R F rows (Ok l) row h = (l, refl, (line_follows R F rows (suc (length rows)) l row).0 h)
decoded_follows R F rows (Err n) row h = absurd (refused≢made h)

-- a record that makes a row is a line that follows
pub next_follows : (R : Rules) (F : Formula) (rows : List Row) (bytes : List ℕ) (row : Row) → next_line R F rows bytes ≡ made row
    → (l : Line) × (R.decode bytes ≡ Ok l) × Follows R F rows (suc (length rows)) l row
unfolding next_line
next_follows R F rows bytes row h = decoded_follows R F rows (R.decode bytes) row h

pub follows_next : (R : Rules) (F : Formula) (rows : List Row) (bytes : List ℕ) (row : Row) (l : Line) → R.decode bytes ≡ Ok l
    → Follows R F rows (suc (length rows)) l row → next_line R F rows bytes ≡ made row
unfolding next_line
follows_next R F rows bytes row l e f = rw e ((line_follows R F rows (suc (length rows)) l row).1 f)

pub good_next : (R : Rules) (F : Formula) (rows : List Row) (bytes : List ℕ) (row : Row) → Proper F → Good R F rows
    → next_line R F rows bytes ≡ made row → Good R F (rows ++ (row ∷ []))
good_next R F rows bytes row proper g h = let f = next_follows R F rows bytes row h in good_follows R F rows f.0 row proper g f.2

pub good_derived : (R : Rules) (F : Formula) → Proper F → (rows : List Row) → Derived R F rows → Good R F rows
good_derived R F proper rows start = λ i p q. absurd (omega arith)
good_derived R F proper rows (line {rows = before} d l row f) = good_follows R F before l row proper (good_derived R F proper before d) f

stopped≢passed : {n i v : ℕ} {rows : List Row} → stopped n i v ≡ passed rows → ⊥
stopped≢passed e = let z : ◌≡◌ {A = ℕ} 0 1 = cc in omega arith

passed_rows : {rows rows' : List Row} → passed rows ≡ passed rows' → rows ≡ rows'
passed_rows e = cc

-- what one record more gives: a row and the rest, or a stop
lines_step : (R : Rules) (F : Formula) (rows : List Row) (r : List ℕ) (rs : List (List ℕ)) (end : List Row) → lines_from R F rows (r ∷ rs) ≡ passed end
    → (row : Row) × (next_line R F rows r ≡ made row) × (lines_from R F (rows ++ (row ∷ [])) rs ≡ passed end)
unfolding lines_from
lines_step R F rows r rs end h = by (next_line R F rows r) refl
  where
    by : (m : Made) → next_line R F rows r ≡ m → (row : Row) × (next_line R F rows r ≡ made row) × (lines_from R F (rows ++ (row ∷ [])) rs ≡ passed end)
    by (made row) e = (row, e, rw (lines_from, e) at h)
    by (refused n v) e = absurd (stopped≢passed (rw (lines_from, e) at h))

pub lines_derived : (R : Rules) (F : Formula) (rows : List Row) (rs : List (List ℕ)) (end : List Row) → Derived R F rows → lines_from R F rows rs ≡ passed end
    → Derived R F end × (length end ≡ length rows + length rs)
unfolding lines_from
lines_derived R F rows [] end d h = let e : rows ≡ end = passed_rows h in (subst (Derived R F) e d, omega (arith, ap length e))
lines_derived R F rows (r ∷ rs) end d h =
    let s = lines_step R F rows r rs end h in
    let f = next_follows R F rows r s.0 s.1 in
    let t = lines_derived R F (rows ++ (s.0 ∷ [])) rs end (line d f.0 s.0 f.2) s.2 in
    (t.0, omega (arith, t.1, rows_grown rows s.0))

pub all_derived : (R : Rules) (F : Formula) (rs : List (List ℕ)) (rows : List Row) → all_lines R F rs ≡ passed rows → Derived R F rows × (length rows ≡ length rs)
unfolding all_lines
all_derived R F rs rows h = let t = lines_derived R F [] rs rows start h in (t.0, omega (arith, t.1))

pub good_all : (R : Rules) (F : Formula) (rs : List (List ℕ)) (rows : List Row) → Proper F → all_lines R F rs ≡ passed rows → Good R F rows × (length rows ≡ length rs)
good_all R F rs rows proper h = let t = all_derived R F rs rows h in (good_derived R F proper rows t.0, t.1)

-- from rows that are good, whatever made them
pub good_from : (R : Rules) (F : Formula) (rows : List Row) (rs : List (List ℕ)) (end : List Row) → Proper F → Good R F rows → lines_from R F rows rs ≡ passed end
    → Good R F end × (length end ≡ length rows + length rs)
unfolding lines_from
good_from R F rows [] end proper g h = let e : rows ≡ end = passed_rows h in (subst (Good R F) e g, omega (arith, ap length e))
good_from R F rows (r ∷ rs) end proper g h =
    let s = lines_step R F rows r rs end h in
    let t = good_from R F (rows ++ (s.0 ∷ [])) rs end proper (good_next R F rows r s.0 proper g s.1) s.2 in
    (t.0, omega (arith, t.1, rows_grown rows s.0))

-- ---- the maps of good rows
module _ (R : Rules) (F : Formula) (rows : List Row) (good : Good R F rows) (j : ℕ) (l : j < length (universals F.prefix)) where
  -- a branch stands at a line of the rows
  pub branch_line : (i x a b : ℕ) → column rows j i ≡ Branch x a b → (1 ≤ i) × (i ≤ length rows)
  branch_line zero x a b e = absurd (branch≢none (sym e ∙ column_zero rows j))
  branch_line (suc i) x a b e =
      by_cases (dec_le (suc i) (length rows)) (λ h. (omega arith, h)) (λ h. absurd (branch≢none (sym e ∙ column_past rows j (suc i) (omega arith))))

  pub column_branch : (i x a b : ℕ) → column rows j i ≡ Branch x a b → GoodBranch R F (column rows j) (get_or (universals F.prefix) j 0) i x a b
  column_branch i x a b e = let p = branch_line i x a b e in ((good i p.0 p.1).entry j l).branch x a b e

  pub column_falling : Falling (column rows j)
  column_falling i x a b e = let g = column_branch i x a b e in (g.low.1, g.high.1)

  pub column_positive : Positive (column rows j)
  column_positive i x a b e = let g = column_branch i x a b e in (g.low.0, g.high.0)

  -- the map of a node that is not none
  pub node_sound : (i : ℕ) → column rows j i ≢ None → Sound (column rows j) i
  node_sound i h = sound_from (column rows j) i column_falling column_positive (λ k x a b e. let g = column_branch k x a b e in (g.low.2, g.high.2)) h

  -- line i's map
  pub root_sound : (i : ℕ) → 1 ≤ i → i ≤ length rows → Sound (column rows j) (root_at rows j i)
  root_sound i p q = node_sound (root_at rows j i) ((good i p q).entry j l).rooted
