-- The maps of every line of rows that all pass win where its clause is false (004, Lemma 19), by the chain from the line to an axiom.
use Rattle.std.specs.Prelude.{◌≡◌, refl, Bool, cond, not, ◌&&◌, ◌⊎◌, ℕ, zero, suc, ◌+◌, ◌≤◌, ◌<◌, eqb, get_or}
use Rattle.std.proofs.Common.{ap, sym, ◌∙◌, true≢false, inl, inr, arith, zero-add, suc-add, add-suc, add-zero, eq-eqb, ne_eqb}
use Rattle.std.proofs.Math.Path.{subst}
use Rattle.std.proofs.Math.Bool.{true, false, or-true}
use Rattle.std.proofs.lemmas.Bool.{false≢true}
use mathlib.Core.List.{List, [], ◌∷◌, ◌++◌, Memᴰ}
use Rattle.std.proofs.Math.Logic.{by_cases}
use Rattle.std.proofs.Math.Decide.{dec_le}
use Rattle.std.proofs.Math.ListN.{length}
use Rattle.rules.specs.declared.Node.{Node}
use Rattle.rules.specs.declared.Node.TheVariants.{None, Leaf, Branch}
use Rattle.rules.specs.declared.Value.{Value}
use Rattle.rules.specs.declared.Value.TheVariants.{Star, One, Zero}
use Rattle.rules.specs.declared.Resolution.{Resolution}
use Rattle.rules.specs.declared.Line.{Line}
use Rattle.rules.specs.declared.Line.TheVariants as L
use Rattle.rules.specs.definitions.Sets.{Set, has}
use Rattle.theory.specs.laws.Sets.{has_range}
use Rattle.rules.specs.definitions.Formula.{Clause, Formula, Assignment, Satisfies, bound_by, universals, existentials, kept_by, resolvent}
use Rattle.rules.specs.definitions.Formula.Quant.{exists, forall}
use Rattle.theory.specs.laws.Formula.{bound_cases, one_kind, universal_bound, bound_universal, universals_differ, proper_fits, has_existentials, has_kept_plain, has_kept_negated, has_resolvent_plain, has_resolvent_negated}
use Rattle.rules.specs.definitions.Maps.{Column, plays, value_of, as_bool, star?, Reached}
use Rattle.rules.specs.statements.Sound.{Sound}
use Rattle.theory.specs.laws.Maps.{plays_leaf, plays_branch, walk_same, walk_agree, reached_le}
use Rattle.rules.specs.definitions.Lines.{Entry, Row, no_entry, clause_at, column, root_at, falsifying, leaf_entry, Rules, clause_number, axiom_row, in_set, kept_root, selected, map_entry, resolution_row}
use Rattle.rules.specs.statements.Proper.{Proper}
use Rattle.rules.specs.statements.Good.{GoodLine, Good}
use Rattle.theory.specs.laws.Lines.{clause_before, column_before, root_before, clause_new, column_new, root_new, rows_grown, each_at, clause_in, Selects, select_keeps, good_derived, column_branch, root_sound}
use Rattle.rules.specs.statements.Follows.{ParentsFollow, MapsFollow, Follows, Derived}
use Rattle.theory.specs.laws.Lines.Selects.{second, first, third}
use Rattle.rules.specs.statements.Follows.Derived.{start, line}
use Rattle.rules.specs.statements.Plays.{with_values, line_plays, played, PlaysAlike}

with_values_in : (value : ℕ → Bool) (us : List ℕ) (j : ℕ) (s : Assignment) (k : ℕ) → k < length us
    → ((m : ℕ) → m < length us → get_or us k 0 ≡ get_or us m 0 → k ≡ m) → with_values value us j s (get_or us k 0) ≡ value (j + k)
unfolding with_values
with_values_in value [] j s k h differ = absurd (omega arith)
with_values_in value (u ∷ us) j s zero h differ = rw (eq-eqb u u refl) (ap value (sym (add-zero j)))
with_values_in value (u ∷ us) j s (suc k) h differ =
    rw (ne_eqb (get_or us k 0) u (λ e. omega (arith, differ 0 (omega arith) e)))
    (with_values_in value us (suc j) s k (omega arith) (λ m l e. omega (arith, differ (suc m) (omega arith) e)) ∙ ap value (suc-add j k ∙ sym (add-suc j k)))

with_values_out : (value : ℕ → Bool) (us : List ℕ) (j : ℕ) (s : Assignment) (v : ℕ) → ((m : ℕ) → m < length us → v ≡ get_or us m 0 → ⊥) → with_values value us j s v ≡ s v
unfolding with_values
with_values_out value [] j s v h = refl
with_values_out value (u ∷ us) j s v h = rw (ne_eqb v u (λ e. h 0 (omega arith) e)) (with_values_out value us (suc j) s v (λ m l e. h (suc m) (omega arith) e))

-- a universal has the value of its map
pub played_universal : (F : Formula) → Proper F → (rows : List Row) (i : ℕ) (s : Assignment) (j : ℕ) → j < length (universals F.prefix)
    → played F rows i s (get_or (universals F.prefix) j 0) ≡ line_plays rows i s j
unfolding played
played_universal F proper rows i s j l =
    with_values_in (line_plays rows i s) (universals F.prefix) 0 s j l (λ m h e. universals_differ F.prefix proper.distinct j m l h e)
    ∙ ap (line_plays rows i s) (zero-add j)

-- every other variable has the value it had
pub played_other : (F : Formula) (rows : List Row) (i : ℕ) (s : Assignment) (v : ℕ) → (bound_by forall F.prefix v ≡ true → ⊥) → played F rows i s v ≡ s v
unfolding played
played_other F rows i s v h =
    with_values_out (line_plays rows i s) (universals F.prefix) 0 s v (λ m l e. h (ap (bound_by forall F.prefix) e ∙ universal_bound F.prefix m l))

pub played_existential : (F : Formula) → Proper F → (rows : List Row) (i : ℕ) (s : Assignment) (v : ℕ) → bound_by exists F.prefix v ≡ true → played F rows i s v ≡ s v
played_existential F proper rows i s v h = played_other F rows i s v (λ e. one_kind F.prefix v proper.distinct h e)

-- ---- what a line of the finished rows is
-- a value that a map gives is the one taken; a star leaves it open
abbrev pub Agrees : Value → Bool → Type 0
Agrees Star b = Unit {0}
Agrees One b = b ≡ true
Agrees Zero b = b ≡ false

agrees_bool : (v : Value) (b : Bool) → b ≡ as_bool v → Agrees v b
agrees_bool Star b e = tt
agrees_bool One b e = e
agrees_bool Zero b e = e

-- where the chain goes from a resolution: to parent a where its pivot is 0, else to b
abbrev pub parent : Assignment → Resolution → ℕ
parent s r = cond (s r.pivot) r.b r.a

-- line i is the axiom of clause number c
pub record Starts (F : Formula) (rows : List Row) (i c : ℕ) : Type 0 where
  pub number : (1 ≤ c) × (c ≤ length F.matrix)
  pub clause : clause_at rows i ≡ kept_by (existentials F.prefix) (clause_number F c)
  pub maps : (j : ℕ) → j < length (universals F.prefix) → (s : Assignment)
      → plays (column rows j) s (root_at rows j i) ≡ falsifying (clause_number F c) (get_or (universals F.prefix) j 0)

-- line i is the resolution r; what its maps give, those of the parent that the chain goes to leave open or give too
pub record Steps (F : Formula) (rows : List Row) (i : ℕ) (r : Resolution) : Type 0 where
  pub parents : ParentsFollow F rows i r
  pub clause : clause_at rows i ≡ resolvent (clause_at rows r.a) (clause_at rows r.b) r.pivot
  pub maps : (j : ℕ) → j < length (universals F.prefix) → (s : Assignment) (b : Bool)
      → Agrees (plays (column rows j) s (root_at rows j i)) b → Agrees (plays (column rows j) s (root_at rows j (parent s r))) b

abbrev pub Stands : Formula → List Row → ℕ → Line → Type 0
Stands F rows i (L.Axiom c) = Starts F rows i c
Stands F rows i (L.Resolve r) = Steps F rows i r

-- an earlier line's map plays the same when one more row is made
module _ (R : Rules) (F : Formula) (rows : List Row) (row : Row) (good : Good R F rows) (j : ℕ) (l : j < length (universals F.prefix)) where
  root_plays : (k : ℕ) → 1 ≤ k → k ≤ length rows → (s : Assignment)
      → plays (column (rows ++ (row ∷ [])) j) s (root_at rows j k) ≡ plays (column rows j) s (root_at rows j k)
  root_plays k p q s = sym (ap value_of (walk_same (column rows j) (column (rows ++ (row ∷ [])) j) s (root_at rows j k) same))
    where
      same : (i : ℕ) → Reached (column rows j) (root_at rows j k) i → column (rows ++ (row ∷ [])) j i ≡ column rows j i
      same i h =
          column_before rows row j i
          (omega (arith, reached_le (root_sound R F rows good j l k p q).falling h, ((good k p q).entry j l).root))

  pub plays_before : (k : ℕ) → 1 ≤ k → k ≤ length rows → (s : Assignment)
      → plays (column (rows ++ (row ∷ [])) j) s (root_at (rows ++ (row ∷ [])) j k) ≡ plays (column rows j) s (root_at rows j k)
  plays_before k p q s = ap (plays (column (rows ++ (row ∷ [])) j) s) (root_before rows row j k q) ∙ root_plays k p q s

parent_earlier : (F : Formula) (rows : List Row) (i : ℕ) (r : Resolution) → ParentsFollow F rows i r → (s : Assignment) → (1 ≤ parent s r) × (parent s r < i)
parent_earlier F rows i r ps s = by (s r.pivot)
  where
    by : (t : Bool) → (1 ≤ cond t r.b r.a) × (cond t r.b r.a < i)
    by true = ps.b_earlier
    by false = ps.a_earlier

-- parents stay when one more row is made
parents_kept : (F : Formula) (rows : List Row) (row : Row) (i : ℕ) (r : Resolution) → i ≤ suc (length rows) → ParentsFollow F rows i r → ParentsFollow F (rows ++ (row ∷ [])) i r
parents_kept F rows row i r h ps = record {
  a_earlier = ps.a_earlier;
  b_earlier = ps.b_earlier;
  pivot = ps.pivot;
  plain = rw (clause_before rows row r.a (omega (arith, ps.a_earlier))) ps.plain;
  negated = rw (clause_before rows row r.b (omega (arith, ps.b_earlier))) ps.negated;
}

resolvent_kept : (rows : List Row) (row : Row) (r : Resolution) → r.a ≤ length rows → r.b ≤ length rows
    → resolvent (clause_at rows r.a) (clause_at rows r.b) r.pivot ≡ resolvent (clause_at (rows ++ (row ∷ [])) r.a) (clause_at (rows ++ (row ∷ [])) r.b) r.pivot
resolvent_kept rows row r ha hb = rw (clause_before rows row r.a ha, clause_before rows row r.b hb)

-- a line stands as it did when one more row is made
module _ (R : Rules) (F : Formula) (rows : List Row) (row : Row) (good : Good R F rows) where
  stands_kept : (i : ℕ) → 1 ≤ i → i ≤ length rows → (l : Line) → Stands F rows i l → Stands F (rows ++ (row ∷ [])) i l
  stands_kept i p q (L.Axiom c) S = record {
    number = S.number;
    clause = clause_before rows row i q ∙ S.clause;
    maps = λ j l s. plays_before R F rows row good j l i p q s ∙ S.maps j l s;
  }
  stands_kept i p q (L.Resolve r) S = record {
    parents = parents_kept F rows row i r (omega arith) S.parents;
    clause = clause_before rows row i q ∙ S.clause ∙ resolvent_kept rows row r (omega (arith, S.parents.a_earlier)) (omega (arith, S.parents.b_earlier));
    maps = maps;
  }
    where
      maps : (j : ℕ) → j < length (universals F.prefix) → (s : Assignment) (b : Bool)
          → Agrees (plays (column (rows ++ (row ∷ [])) j) s (root_at (rows ++ (row ∷ [])) j i)) b
          → Agrees (plays (column (rows ++ (row ∷ [])) j) s (root_at (rows ++ (row ∷ [])) j (parent s r))) b
      maps j l s b h =
          let e = parent_earlier F rows i r S.parents s in
          subst (λ (v : Value). Agrees v b) (sym (plays_before R F rows row good j l (parent s r) e.0 (omega arith) s))
          (S.maps j l s b (subst (λ (v : Value). Agrees v b) (plays_before R F rows row good j l i p q s) h))

-- the new line
axiom_stands : (F : Formula) (rows : List Row) (c : ℕ) → (1 ≤ c) × (c ≤ length F.matrix)
    → Starts F (rows ++ (axiom_row F (suc (length rows)) c ∷ [])) (suc (length rows)) c
unfolding axiom_row
axiom_stands F rows c h = record { number = h; clause = clause_new rows row; maps = maps }
  where
    row : Row
    row = axiom_row F (suc (length rows)) c

    us : List ℕ
    us = universals F.prefix

    at : (j : ℕ) → j < length us → get_or row.entries j no_entry ≡ leaf_entry (clause_number F c) (suc (length rows)) j (get_or us j 0)
    at j l = each_at (leaf_entry (clause_number F c) (suc (length rows))) us j no_entry l

    maps : (j : ℕ) → j < length us → (s : Assignment)
        → plays (column (rows ++ (row ∷ [])) j) s (root_at (rows ++ (row ∷ [])) j (suc (length rows))) ≡ falsifying (clause_number F c) (get_or us j 0)
    maps j l s =
        ap (plays (column (rows ++ (row ∷ [])) j) s) (root_new rows row j ∙ ap (λ (e : Entry). e.root) (at j l))
        ∙ plays_leaf (column (rows ++ (row ∷ [])) j) s (suc (length rows)) (falsifying (clause_number F c) (get_or us j 0))
        (column_new rows row j ∙ ap (λ (e : Entry). e.node) (at j l))

star_plays : (T : Column) (s : Assignment) (i : ℕ) → star? (T i) ≡ true → plays T s i ≡ Star
star_plays T s i h = plays_leaf T s i Star (by (T i) h)
  where
    by : (n : Node) → star? n ≡ true → n ≡ Leaf Star
    by None e = absurd (false≢true e)
    by (Leaf Star) e = refl
    by (Leaf One) e = absurd (false≢true e)
    by (Leaf Zero) e = absurd (false≢true e)
    by (Branch x a b) e = absurd (false≢true e)

-- what the selected root's map gives, both parents' maps leave open or give too
selected_agrees : (third_ground : Column → ℕ → ℕ → Bool) → PlaysAlike third_ground → (T : Column) (a b k : ℕ) → Sound T a → Sound T b → 0 < a → 0 < b → Selects third_ground T a b k
    → (s : Assignment) (v : Bool) → Agrees (plays T s k) v → (t : Bool) → Agrees (plays T s (cond t b a)) v
selected_agrees third_ground alike T a b k Sa Sb ha hb (second p) s v h true = h
selected_agrees third_ground alike T a b k Sa Sb ha hb (second p) s v h false = subst (λ (w : Value). Agrees w v) (sym (star_plays T s a p)) tt
selected_agrees third_ground alike T a b k Sa Sb ha hb (first p q) s v h true = subst (λ (w : Value). Agrees w v) (sym (star_plays T s b q)) tt
selected_agrees third_ground alike T a b k Sa Sb ha hb (first p q) s v h false = h
selected_agrees third_ground alike T a b k Sa Sb ha hb (third p q o) s v h true = subst (λ (w : Value). Agrees w v) (alike T a b Sa Sb ha hb o s) h
selected_agrees third_ground alike T a b k Sa Sb ha hb (third p q o) s v h false = h

module _ (R : Rules) (F : Formula) (alike : PlaysAlike R.third_ground) (rows : List Row) (good : Good R F rows) (r : Resolution) (chosen : ℕ → Bool)
    (ps : ParentsFollow F rows (suc (length rows)) r) (ms : MapsFollow R F rows r chosen) where
  abbrev new_row : Row
  new_row = resolution_row R F rows (suc (length rows)) r chosen

  abbrev new_rows : List Row
  new_rows = rows ++ (new_row ∷ [])

  new_entry : (j : ℕ) → j < length (universals F.prefix) → get_or new_row.entries j no_entry ≡ map_entry R rows (suc (length rows)) r chosen j (get_or (universals F.prefix) j 0)
  unfolding resolution_row
  new_entry j l = each_at (map_entry R rows (suc (length rows)) r chosen) (universals F.prefix) j no_entry l

  -- the root of the parent that the chain goes to
  parent_root : (j : ℕ) (s : Assignment) → root_at new_rows j (parent s r) ≡ cond (s r.pivot) (root_at rows j r.b) (root_at rows j r.a)
  parent_root j s = by (s r.pivot)
    where
      by : (t : Bool) → root_at new_rows j (cond t r.b r.a) ≡ cond t (root_at rows j r.b) (root_at rows j r.a)
      by true = root_before rows new_row j r.b (omega (arith, ps.b_earlier))
      by false = root_before rows new_row j r.a (omega (arith, ps.a_earlier))

  merged_agrees : (j : ℕ) → j < length (universals F.prefix) → chosen j ≡ true → (s : Assignment)
      → plays (column new_rows j) s (root_at new_rows j (suc (length rows))) ≡ plays (column new_rows j) s (root_at new_rows j (parent s r))
  merged_agrees j l e s =
      ap (plays (column new_rows j) s) (root_new rows new_row j ∙ ap (λ (x : Entry). x.root) at)
      ∙ plays_branch (column new_rows j) s (suc (length rows)) r.pivot (root_at rows j r.a) (root_at rows j r.b)
      (column_new rows new_row j ∙ ap (λ (x : Entry). x.node) at)
      (omega (arith, ((good r.a ps.a_earlier.0 (omega (arith, ps.a_earlier))).entry j l).root, ps.a_earlier))
      (omega (arith, ((good r.b ps.b_earlier.0 (omega (arith, ps.b_earlier))).entry j l).root, ps.b_earlier))
      ∙ ap (plays (column new_rows j) s) (sym (parent_root j s))
    where
      at : get_or new_row.entries j no_entry ≡ record { node = Branch r.pivot (root_at rows j r.a) (root_at rows j r.b); root = suc (length rows) }
      at = new_entry j l ∙ rw (map_entry, e)

  kept_agrees : (j : ℕ) → j < length (universals F.prefix) → chosen j ≡ false → (s : Assignment) (v : Bool)
      → Agrees (plays (column new_rows j) s (root_at new_rows j (suc (length rows)))) v → Agrees (plays (column new_rows j) s (root_at new_rows j (parent s r))) v
  kept_agrees j l e s v h =
      subst (λ (w : Value). Agrees w v) (sym (ap (plays (column new_rows j) s) (parent_root j s) ∙ old_parent (s r.pivot)))
      (selected_agrees R.third_ground alike T a b k
      (root_sound R F rows good j l r.a ps.a_earlier.0 ia) (root_sound R F rows good j l r.b ps.b_earlier.0 ib)
      ((good r.a ps.a_earlier.0 ia).entry j l).root.0 ((good r.b ps.b_earlier.0 ib).entry j l).root.0
      keeps s v (subst (λ (w : Value). Agrees w v) (ap (plays (column new_rows j) s) (root_new rows new_row j ∙ ap (λ (x : Entry). x.root) at) ∙ old_kept k keeps) h) (s r.pivot))
    where
      T : Column
      T = column rows j

      a : ℕ
      a = root_at rows j r.a

      b : ℕ
      b = root_at rows j r.b

      k : ℕ
      k = kept_root (selected R rows r j)

      ia : r.a ≤ length rows
      ia = omega (arith, ps.a_earlier)

      ib : r.b ≤ length rows
      ib = omega (arith, ps.b_earlier)

      at : get_or new_row.entries j no_entry ≡ record { node = None; root = k }
      at = new_entry j l ∙ rw (map_entry, e)

      keeps : Selects R.third_ground T a b k
      keeps = select_keeps R.third_ground T a b (ms.selects j l e)

      old_a : plays (column new_rows j) s a ≡ plays T s a
      old_a = root_plays R F rows new_row good j l r.a ps.a_earlier.0 ia s

      old_b : plays (column new_rows j) s b ≡ plays T s b
      old_b = root_plays R F rows new_row good j l r.b ps.b_earlier.0 ib s

      old_kept : (k : ℕ) → Selects R.third_ground T a b k → plays (column new_rows j) s k ≡ plays T s k
      old_kept k (second p) = old_b
      old_kept k (first p q) = old_a
      old_kept k (third p q o) = old_a

      old_parent : (t : Bool) → plays (column new_rows j) s (cond t b a) ≡ plays T s (cond t b a)
      old_parent true = old_b
      old_parent false = old_a

  resolution_stands : Steps F new_rows (suc (length rows)) r
  unfolding resolution_row
  resolution_stands = record {
    parents = parents_kept F rows new_row (suc (length rows)) r (omega arith) ps;
    clause = clause_new rows new_row ∙ resolvent_kept rows new_row r (omega (arith, ps.a_earlier)) (omega (arith, ps.b_earlier));
    maps = λ j l s b h. by j l s b h (chosen j) refl;
  }
    where
      by : (j : ℕ) → j < length (universals F.prefix) → (s : Assignment) (b : Bool) → Agrees (plays (column new_rows j) s (root_at new_rows j (suc (length rows)))) b
          → (t : Bool) → chosen j ≡ t → Agrees (plays (column new_rows j) s (root_at new_rows j (parent s r))) b
      by j l s b h true e = subst (λ (w : Value). Agrees w b) (merged_agrees j l e s) h
      by j l s b h false e = kept_agrees j l e s b h

-- every line of rows that all pass is an axiom or a resolution of the finished rows
module _ (R : Rules) (F : Formula) (proper : Proper F) (alike : PlaysAlike R.third_ground) where
  new_stands : (rows : List Row) → Good R F rows → (l : Line) (row : Row) → Follows R F rows (suc (length rows)) l row → Stands F (rows ++ (row ∷ [])) (suc (length rows)) l
  new_stands rows good (L.Axiom c) row f = rw f.1 (axiom_stands F rows c f.0)
  new_stands rows good (L.Resolve r) row f = rw f.1 (resolution_stands R F alike rows good r (in_set r.merge) f.0.parents f.0.maps)

  pub stands : (rows : List Row) → Derived R F rows → (i : ℕ) → 1 ≤ i → i ≤ length rows → (l : Line) × Stands F rows i l
  stands rows start i p q = absurd (omega arith)
  stands rows (line {rows = before} d l row f) i p q =
      by_cases (dec_le i (length before))
      (λ h. let t = stands before d i p h in (t.0, stands_kept R F before row good i p h t.0 t.1))
      (λ h. let e : i ≡ suc (length before) = omega (arith, rows_grown before row) in (l, rw e (new_stands before good l row f)))
    where
      good : Good R F before
      good = good_derived R F proper before d

-- ---- the chain: from a resolution to parent a where its pivot is 0, else to b, until an axiom
pub data Chain (F : Formula) (rows : List Row) (s : Assignment) : ℕ → Type 0 where
  ends : {i : ℕ} (c : ℕ) → Starts F rows i c → Chain F rows s i
  goes : {i : ℕ} (r : Resolution) → Steps F rows i r → Chain F rows s (parent s r) → Chain F rows s i

-- the clause number of the axiom that it comes to
unfoldable pub chain_axiom : {F : Formula} {rows : List Row} {s : Assignment} {i : ℕ} → Chain F rows s i → ℕ
chain_axiom (ends c S) = c
chain_axiom (goes r S on) = chain_axiom on

pub chain : (F : Formula) (rows : List Row) → ((i : ℕ) → 1 ≤ i → i ≤ length rows → (l : Line) × Stands F rows i l)
    → (s : Assignment) (i : ℕ) → 1 ≤ i → i ≤ length rows → Chain F rows s i
chain F rows lines s i p q = from (suc i) i (omega arith) p q
  where
    at : (i : ℕ) → i ≤ length rows → (l : Line) → Stands F rows i l → ((k : ℕ) → 1 ≤ k → k < i → Chain F rows s k) → Chain F rows s i
    at i q (L.Axiom c) S below = ends c S
    at i q (L.Resolve r) S below = let e = parent_earlier F rows i r S.parents s in goes r S (below (parent s r) e.0 e.1)

    from : (f i : ℕ) → i < f → 1 ≤ i → i ≤ length rows → Chain F rows s i
    from zero i h p q = absurd (omega arith)
    from (suc f) i h p q = let t = lines i p q in at i q t.0 t.1 (λ k a b. from f k (omega arith) a (omega arith))

-- the settings make line i's clause false and give each universal what line i's map gives it
pub record Loses (F : Formula) (rows : List Row) (i : ℕ) (s : Assignment) : Type 0 where
  pub clause : Satisfies s (clause_at rows i) → ⊥
  pub maps : (j : ℕ) → j < length (universals F.prefix) → Agrees (plays (column rows j) s (root_at rows j i)) (s (get_or (universals F.prefix) j 0))

-- literals of a parent other than the pivot's are literals of the resolvent
resolvent_a : (c d : Clause) (x : ℕ) (s : Assignment) → has c.plain x ≡ true → has d.negated x ≡ true → s x ≡ false → Satisfies s c → Satisfies s (resolvent c d x)
resolvent_a c d x s hc hd e (v, inl (p, q)) =
    (v, inl (has_resolvent_plain c d x v (has_range c.plain x hc).0 (has_range c.plain x hc).1 ∙ rw (p, ne_eqb v x (λ z. true≢false (sym q ∙ ap s z ∙ e))), q))
resolvent_a c d x s hc hd e (v, inr (p, q)) =
    (v, inr (has_resolvent_negated c d x v (has_range d.negated x hd).0 (has_range d.negated x hd).1 ∙ rw p, q))

resolvent_b : (c d : Clause) (x : ℕ) (s : Assignment) → has c.plain x ≡ true → has d.negated x ≡ true → s x ≡ true → Satisfies s d → Satisfies s (resolvent c d x)
resolvent_b c d x s hc hd e (v, inl (p, q)) =
    (v, inl (has_resolvent_plain c d x v (has_range c.plain x hc).0 (has_range c.plain x hc).1 ∙ rw p (or-true (has c.plain v && not (eqb v x))), q))
resolvent_b c d x s hc hd e (v, inr (p, q)) = (
  v,
  inr (
    has_resolvent_negated c d x v (has_range d.negated x hd).0 (has_range d.negated x hd).1
        ∙ rw (p, ne_eqb v x (λ z. false≢true (sym q ∙ ap s z ∙ e))) (or-true (has c.negated v)),
    q,
  ),
)

-- the chain keeps to lines whose clauses are false and whose maps are kept to
pub chain_step : (F : Formula) (rows : List Row) (i : ℕ) (r : Resolution) → Steps F rows i r → (s : Assignment) → Loses F rows i s → Loses F rows (parent s r) s
chain_step F rows i r S s lost = record { clause = by (s r.pivot) refl; maps = λ j l. S.maps j l s (s (get_or (universals F.prefix) j 0)) (lost.maps j l) }
  where
    A : Clause
    A = clause_at rows r.a

    B : Clause
    B = clause_at rows r.b

    all : Satisfies s (resolvent A B r.pivot) → ⊥
    all h = lost.clause (subst (Satisfies s) (sym S.clause) h)

    by : (t : Bool) → s r.pivot ≡ t → Satisfies s (clause_at rows (cond t r.b r.a)) → ⊥
    by true e h = all (resolvent_b A B r.pivot s S.parents.plain S.parents.negated e h)
    by false e h = all (resolvent_a A B r.pivot s S.parents.plain S.parents.negated e h)

-- at the axiom the full clause of the matrix is false
pub chain_end : (F : Formula) → Proper F → (rows : List Row) (i c : ℕ) → Starts F rows i c → (s : Assignment) → Loses F rows i s → Satisfies s (clause_number F c) → ⊥
chain_end F proper rows i c S s lost = false_clause
  where
    C : Clause
    C = clause_number F c

    in_matrix : Memᴰ C F.matrix
    in_matrix = clause_in F c S.number.0 S.number.1

    es : Set
    es = existentials F.prefix

    kept : Satisfies s (kept_by es C) → ⊥
    kept h = lost.clause (subst (Satisfies s) (sym S.clause) h)

    existential : (v : ℕ) → bound_by exists F.prefix v ≡ true → has es v ≡ true
    existential v h = has_existentials F.prefix (proper_fits F proper) v ∙ h

    given : (v : ℕ) → bound_by forall F.prefix v ≡ true → Agrees (falsifying C v) (s v)
    given v h =
        let u = bound_universal F.prefix v h in
        rw u.2 at (subst (λ (w : Value). Agrees w (s (get_or (universals F.prefix) u.0 0))) (S.maps u.0 u.1 s) (lost.maps u.0 u.1))

    not_plain : (v : ℕ) → has C.negated v ≡ true → (t : Bool) → has C.plain v ≡ t → has C.plain v ≡ false
    not_plain v h true e = absurd (proper.one_way C in_matrix v e h)
    not_plain v h false e = e

    plain : (v : ℕ) → has C.plain v ≡ true → s v ≡ true → (bound_by exists F.prefix v ≡ true) ⊎ (bound_by forall F.prefix v ≡ true) → ⊥
    plain v p q (inl b) = kept (v, inl (has_kept_plain es C v ∙ rw (p, existential v b), q))
    plain v p q (inr b) = true≢false (sym q ∙ rw p at (given v b))

    negated : (v : ℕ) → has C.negated v ≡ true → s v ≡ false → (bound_by exists F.prefix v ≡ true) ⊎ (bound_by forall F.prefix v ≡ true) → ⊥
    negated v p q (inl b) = kept (v, inr (has_kept_negated es C v ∙ rw (p, existential v b), q))
    negated v p q (inr b) = false≢true (sym q ∙ rw (not_plain v p _ refl, p) at (given v b))

    false_clause : Satisfies s C → ⊥
    false_clause (v, inl (p, q)) = plain v p q (bound_cases F.prefix v (proper.closed C in_matrix v (inl p)))
    false_clause (v, inr (p, q)) = negated v p q (bound_cases F.prefix v (proper.closed C in_matrix v (inr p)))

pub chain_breaks : (F : Formula) → Proper F → (rows : List Row) (s : Assignment) (i : ℕ) (c : Chain F rows s i) → Loses F rows i s → Satisfies s (clause_number F (chain_axiom c)) → ⊥
unfolding chain_axiom
chain_breaks F proper rows s i (ends c S) lost = chain_end F proper rows i c S s lost
chain_breaks F proper rows s i (goes r S on) lost = chain_breaks F proper rows s (parent s r) on (chain_step F rows i r S s lost)

pub chain_numbered : (F : Formula) (rows : List Row) (s : Assignment) (i : ℕ) (c : Chain F rows s i) → (1 ≤ chain_axiom c) × (chain_axiom c ≤ length F.matrix)
unfolding chain_axiom
chain_numbered F rows s i (ends c S) = S.number
chain_numbered F rows s i (goes r S on) = chain_numbered F rows s (parent s r) on

-- ---- Lemma 19
module _ (R : Rules) (F : Formula) (proper : Proper F) (rows : List Row) (good : Good R F rows) (i : ℕ) (p : 1 ≤ i) (q : i ≤ length rows) where
  -- the maps of line i read existential variables, so that what they play is not changed by it
  played_same : (s : Assignment) (j : ℕ) → j < length (universals F.prefix) → plays (column rows j) (played F rows i s) (root_at rows j i) ≡ plays (column rows j) s (root_at rows j i)
  played_same s j l =
      ap value_of (walk_agree (column rows j) (played F rows i s) s (root_at rows j i)
      (λ k x a b h e. played_existential F proper rows i s x (column_branch R F rows good j l k x a b e).existential))

  played_loses : (s : Assignment) → (Satisfies s (clause_at rows i) → ⊥) → Loses F rows i (played F rows i s)
  played_loses s lost = record { clause = clause; maps = maps }
    where
      g : GoodLine R F rows i
      g = good i p q

      clause : Satisfies (played F rows i s) (clause_at rows i) → ⊥
      clause (v, inl (a, b)) = lost (v, inl (a, sym (played_existential F proper rows i s v (g.plain v a)) ∙ b))
      clause (v, inr (a, b)) = lost (v, inr (a, sym (played_existential F proper rows i s v (g.negated v a)) ∙ b))

      maps : (j : ℕ) → j < length (universals F.prefix)
          → Agrees (plays (column rows j) (played F rows i s) (root_at rows j i)) (played F rows i s (get_or (universals F.prefix) j 0))
      maps j l =
          agrees_bool (plays (column rows j) (played F rows i s) (root_at rows j i)) (played F rows i s (get_or (universals F.prefix) j 0))
          (played_universal F proper rows i s j l ∙ ap as_bool (sym (played_same s j l)))

-- for all settings that make line i's clause false, its maps, star as 0, make some clause of the matrix false
pub line_wins : (R : Rules) (F : Formula) → Proper F → PlaysAlike R.third_ground → (rows : List Row) → Derived R F rows
    → (i : ℕ) → 1 ≤ i → i ≤ length rows → (s : Assignment) → (Satisfies s (clause_at rows i) → ⊥)
    → (c : Clause) × Memᴰ c F.matrix × (Satisfies (played F rows i s) c → ⊥)
line_wins R F proper alike rows derived i p q s lost =
    let t : Assignment = played F rows i s in
    let c : Chain F rows t i = chain F rows (stands R F proper alike rows derived) t i p q in
    let n = chain_numbered F rows t i c in (
      clause_number F (chain_axiom c),
      clause_in F (chain_axiom c) n.0 n.1,
      chain_breaks F proper rows t i c (played_loses R F proper rows (good_derived R F proper rows derived) i p q s lost),
    )
