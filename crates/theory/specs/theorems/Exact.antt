-- Demand 2: checking accepts exactly the files whose lines follow by the rules that their records name, and the rows hold those lines.
use Rattle.std.specs.Prelude.{◌≡◌, refl, Bool, true, false, List, [], ◌∷◌, ◌⊎◌, ◌↔◌, ℕ, zero, suc, ◌≤◌, ◌<◌, length, get_or}
use Rattle.std.proofs.Common.{ap, sym, ◌∙◌, subst, inl, inr, arith, eq-eqb, ne_eqb}
use Rattle.rules.specs.declared.Line.{Line}
use Rattle.rules.specs.declared.Line.TheVariants.{Axiom, Resolve}
use Rattle.rules.specs.definitions.File.{Decoded}
use Rattle.rules.specs.definitions.Formula.{Clause, Formula, Assignment, universals, empty_clause}
use Rattle.rules.specs.definitions.Maps.{Column, plays}
use Rattle.rules.specs.definitions.File.{Form, announced, head_fault, records}
use Rattle.rules.specs.definitions.Lines.{Row, clause_at, column, root_at, Rules, clause_number, in_set}
use Rattle.rules.specs.definitions.Checking.{all_lines, last_empty, Manner, refuting, base, rules_of, checked_by}
use Rattle.rules.specs.definitions.Checking.Checked.{accepted}
use Rattle.rules.specs.definitions.Faults.Found.{passes}
use Rattle.rules.specs.definitions.Checking.Passed.{passed}
use Rattle.rules.specs.definitions.Paper.{MergeMap, computed, single, Select, ProofLine, falsifying_literal, SameLiterals, Merged, Universal, ByAxiom, ByResolution, Calculus, merge_resolution, Isomorphism, Derivation, Empty, Refutation}
use Rattle.rules.specs.definitions.Named.{universal_at, Named, Follow}
use Rattle.theory.specs.laws.Formula.{empty_clause_plain, empty_clause_negated, has_empty_clause, universals_differ, bound_universal}
use Rattle.rules.specs.statements.Proper.{Proper}
use Rattle.theory.specs.laws.Reading.{read_proper}
use Rattle.theory.specs.laws.Lines.{all_derived, clause_in, column_branch, root_sound}
use Rattle.theory.specs.laws.File.{length_split}
use Rattle.theory.specs.theorems.FirstFault.{verdict_exact, accepted_passes}
use Rattle.rules.specs.statements.Verdict.Verdict.{accepts}
use Rattle.rules.specs.statements.Sound.{Sound}
use Rattle.rules.specs.statements.Good.{Good}
use Rattle.rules.specs.statements.Held.{map_at, HoldsLine, Hold, offset_of, paper_lines, LeftExistential}
use Rattle.theory.specs.laws.Paper.{stands, stands_merge_map, stands_computed, stands_isomorphic}
use Rattle.theory.specs.laws.Comparing.{test_decides}
use Rattle.rules.specs.definitions.Comparing.{isomorphic}
use Rattle.rules.specs.statements.Verdict.{AllPass}
use Rattle.theory.specs.theorems.Countermodel.{head_some}
use Rattle.theory.specs.theorems.Held.{same_sym, same_trans, follow_exact}
use Rattle.rules.specs.statements.Proves.{Decides, Derives, Proves}

offset_found : (us : List ℕ) → ((j k : ℕ) → j < length us → k < length us → get_or us j 0 ≡ get_or us k 0 → j ≡ k) → (j : ℕ) → j < length us → offset_of us (get_or us j 0) ≡ j
unfolding offset_of
offset_found [] differ j l = absurd (omega arith)
offset_found (w ∷ us) differ zero l = rw (offset_of, eq-eqb w w refl)
offset_found (w ∷ us) differ (suc j) l =
    rw (offset_of, ne_eqb w (get_or us j 0) (λ e. omega (arith, differ 0 (suc j) (omega arith) l e)))
    (ap suc (offset_found us (λ i k p q e. omega (arith, differ (suc i) (suc k) (omega arith) (omega arith) e)) j (omega arith)))

-- the rows hold them
pub paper_held : (F : Formula) → Proper F → (rows : List Row) → Hold F (paper_lines F rows) rows
unfolding paper_lines
paper_held F proper rows i p q = record {
  clause = record { plain = λ v. refl; negated = λ v. refl };
  maps = λ j l. ap (λ (k : ℕ). map_at (column rows k) (root_at rows k i)) (offset_found (universals F.prefix) (universals_differ F.prefix proper.distinct) j l);
}

-- lines that pass follow from their records
pub passed_follow : (R : Rules) (C : Calculus) → Decides R C → (F : Formula) → Proper F → (rs : List (List ℕ)) (rows : List Row) → all_lines R F rs ≡ passed rows
    → Follow R.decode C F (paper_lines F rows) rs
passed_follow R C decides F proper rs rows e = (follow_exact R C decides F proper (paper_lines F rows) rs).1 (rows, e, paper_held F proper rows)

-- each line's map for the universal at offset j is a merge map over the existential variables left of it, and computes what its column plays
module _ (R : Rules) (F : Formula) (rows : List Row) (good : Good R F rows) (i : ℕ) (lo : 1 ≤ i) (hi : i ≤ length rows) (j : ℕ) (l : j < length (universals F.prefix)) where
  sound_map : Sound (column rows j) (root_at rows j i)
  sound_map = root_sound R F rows good j l i lo hi

  pub held_merge_map : MergeMap (LeftExistential R F (universal_at F j)) (map_at (column rows j) (root_at rows j i))
  held_merge_map = stands_merge_map (column rows j) (root_at rows j i) (map_at (column rows j) (root_at rows j i)) (stands (column rows j) (root_at rows j i) sound_map)
      (LeftExistential R F (universal_at F j)) sound_map
      (λ k x a b h e. let g = column_branch R F rows good j l k x a b e in (g.existential, g.left))

  pub held_computed : (s : Assignment) → computed (map_at (column rows j) (root_at rows j i)) s ≡ plays (column rows j) s (root_at rows j i)
  held_computed s = stands_computed (column rows j) (root_at rows j i) (map_at (column rows j) (root_at rows j i)) (stands (column rows j) (root_at rows j i) sound_map) sound_map s

-- ---- Definition 14 as published follows from the rule that a record names
module _ (C : Calculus) (F : Formula) (L : ℕ → ProofLine) (i : ℕ) where
  universal_offset : (P : ℕ → Type 0) → ((j : ℕ) → j < length (universals F.prefix) → P (universal_at F j)) → (u : ℕ) → Universal F u → P u
  universal_offset P h u e = let p = bound_universal F.prefix u e in subst P p.2 (h p.0 p.1)

  pub named_published : (l : Line) → Named C F L i l → ByAxiom F L i ⊎ ByResolution C F L i
  named_published (Axiom c) h = inl (record {
    source = clause_number F c;
    in_matrix = clause_in F c h.number.0 h.number.1;
    clause = h.clause;
    maps = universal_offset (λ u. (L i).map u ≡ single i (falsifying_literal (clause_number F c) u)) h.maps;
  })
  named_published (Resolve r) h = inr (record {
    a = r.a;
    b = r.b;
    x = r.pivot;
    a_earlier = h.a_earlier;
    b_earlier = h.b_earlier;
    pivot = h.pivot;
    in_a = h.in_a;
    in_b = h.in_b;
    clause = h.clause;
    maps = universal_offset
        (λ u. Select C.Same ((L r.a).map u) ((L r.b).map u) ((L i).map u) ⊎ Merged C r.pivot u ((L r.a).map u) ((L r.b).map u) i ((L i).map u))
        (λ j l. by j l (in_set r.merge j) refl);
  })
    where
      by : (j : ℕ) → j < length (universals F.prefix) → (t : Bool) → in_set r.merge j ≡ t
          → Select C.Same ((L r.a).map (universal_at F j)) ((L r.b).map (universal_at F j)) ((L i).map (universal_at F j))
          ⊎ Merged C r.pivot (universal_at F j) ((L r.a).map (universal_at F j)) ((L r.b).map (universal_at F j)) i ((L i).map (universal_at F j))
      by j l true e = inr (h.merged j l e)
      by j l false e = inl (h.selected j l e)

pub follow_derivation : (decode : List ℕ → Decoded) (C : Calculus) (F : Formula) (L : ℕ → ProofLine) (rs : List (List ℕ)) → Follow decode C F L rs → Derivation C F L (length rs)
follow_derivation decode C F L rs follow zero p q = absurd (omega arith)
follow_derivation decode C F L rs follow (suc i) p q = let f = follow i (omega arith) in named_published C F L (suc i) f.0 f.2

-- the number of records is the number announced
pub records_length : (form : Form) (F : Formula) (proof : List ℕ) → length (records form F proof) ≡ announced proof
unfolding records
records_length form F proof = length_split (announced proof) _

-- the clause is empty in both forms
empty_same : (C D : Clause) → SameLiterals C D → Empty C ↔ (empty_clause D ≡ true)
empty_same C D s = (
  λ e. has_empty_clause D (λ v. sym (s.plain v) ∙ (e v).0) (λ v. sym (s.negated v) ∙ (e v).1),
  λ e v. (s.plain v ∙ empty_clause_plain D e v, s.negated v ∙ empty_clause_negated D e v),
)

-- a head that passes announces a line
announces : (form : Form) (F : Formula) (proof : List ℕ) → head_fault form F proof ≡ passes → 1 ≤ announced proof
announces form F proof e = omega (arith, head_some form F proof e, records_length form F proof)

-- 01's rules decide 004's calculus
pub base_decides : (F : Formula) (proof : List ℕ) → Decides (rules_of base F proof) (merge_resolution F)
base_decides F proof = record { left = λ x u. (λ e. e, λ e. e); same = same }
  where
    same : (T : Column) (a b : ℕ) → Sound T a → Sound T b → 1 ≤ a → 1 ≤ b → Isomorphism (map_at T a) (map_at T b) ↔ (isomorphic T a T b ≡ true)
    same T a b Sa Sb la lb =
        let s = stands_isomorphic T a (map_at T a) (stands T a Sa) T b (map_at T b) (stands T b Sb) in
        let d = test_decides T a T b Sa Sb la lb in
        (λ I. d.1 (s.0 I), λ e. s.1 (d.0 e))

-- ---- all lines pass exactly where lines are derived, and the rows hold those lines
module _ (m : Manner) (text proof : List ℕ) (F : Formula) (C : Calculus) (decides : Decides (rules_of m F proof) C) where
  abbrev rs : List (List ℕ)
  rs = records m.form F proof

  pub derives_exact : (L : ℕ → ProofLine) → Derives m C text proof F L ↔ ((rows : List Row) × AllPass m text proof F rows × Hold F L rows)
  derives_exact L = (forth, back)
    where
      forth : Derives m C text proof F L → (rows : List Row) × AllPass m text proof F rows × Hold F L rows
      forth p =
          let f = (follow_exact (rules_of m F proof) C decides F (read_proper text F p.text_read) L rs).0 p.follow in
          (f.0, record { begun = record { given = p.text_read; head = p.head_right }; lines = f.1 }, f.2)

      back : (rows : List Row) × AllPass m text proof F rows × Hold F L rows → Derives m C text proof F L
      back (rows, P, hold) = record {
        text_read = P.begun.given;
        head_right = P.begun.head;
        follow = (follow_exact (rules_of m F proof) C decides F (read_proper text F P.begun.given) L rs).1 (rows, P.lines, hold);
      }

  -- as many rows as the head announces
  pass_count : (rows : List Row) → AllPass m text proof F rows → length rows ≡ announced proof
  pass_count rows P = (all_derived (rules_of m F proof) F rs rows P.lines).1 ∙ records_length m.form F proof

-- ---- checking for a refutation
module _ (third_ground : Column → ℕ → ℕ → Bool) (form : Form) (text proof : List ℕ) (F : Formula) (C : Calculus) (decides : Decides (rules_of (refuting third_ground form) F proof) C) where
  abbrev m : Manner
  m = refuting third_ground form

  -- the last clause is empty, in the rows and in the lines that they hold
  empty_held : (rows : List Row) → AllPass m text proof F rows → (L : ℕ → ProofLine) → Hold F L rows → Empty (L (announced proof)).clause ↔ (last_empty rows ≡ true)
  empty_held rows P L hold = (λ e. at.0 (subst (λ (n : ℕ). Empty (L n).clause) (sym count) e), λ e. subst (λ (n : ℕ). Empty (L n).clause) count (at.1 e))
    where
      count : length rows ≡ announced proof
      count = pass_count m text proof F C decides rows P

      at : Empty (L (length rows)).clause ↔ (last_empty rows ≡ true)
      at = empty_same (L (length rows)).clause (clause_at rows (length rows)) (hold (length rows) (omega (arith, count, announces form F proof P.begun.head)) (omega arith)).clause

  -- the rows of an accepted proof hold exactly the lines that it proves
  pub accepted_held : (rows : List Row) → checked_by m text proof ≡ accepted F rows → (L : ℕ → ProofLine) → Proves m C text proof F L ↔ Hold F L rows
  accepted_held rows e L = (forth, back)
    where
      s : AllPass m text proof F rows × (last_empty rows ≡ true)
      s = accepted_passes m text proof F rows e

      forth : Proves m C text proof F L → Hold F L rows
      forth p =
          let f = (derives_exact m text proof F C decides L).0 p.derives in
          let q : f.0 ≡ rows = cc (f.1.lines, s.0.lines) in
          subst (Hold F L) q f.2

      back : Hold F L rows → Proves m C text proof F L
      back hold = record { derives = (derives_exact m text proof F C decides L).1 (rows, s.0, hold); empty = (empty_held rows s.0 L hold).1 s.1 }

  -- a proof that proves lines is accepted, with rows that hold them
  proved_accepted : (L : ℕ → ProofLine) → Proves m C text proof F L → (rows : List Row) × (checked_by m text proof ≡ accepted F rows)
  proved_accepted L p =
      let f = (derives_exact m text proof F C decides L).0 p.derives in
      (f.0, (verdict_exact m text proof (accepted F f.0)).1 (accepts F f.0 f.1 ((empty_held f.0 f.1 L f.2).0 p.empty)))

  -- an accepted proof proves the lines of its rows
  pub accepted_proves : (rows : List Row) → checked_by m text proof ≡ accepted F rows → Proves m C text proof F (paper_lines F rows)
  accepted_proves rows e = (accepted_held rows e (paper_lines F rows)).1 (paper_held F (read_proper text F (accepted_passes m text proof F rows e).0.begun.given) rows)

  -- demand 2: checking accepts exactly the proofs whose lines follow by the rules that their records name, the last clause empty
  pub exact : ((rows : List Row) × (checked_by m text proof ≡ accepted F rows)) ↔ ((L : ℕ → ProofLine) × Proves m C text proof F L)
  exact = (
    λ (rows, e). (paper_lines F rows, accepted_proves rows e),
    λ (L, p). proved_accepted L p,
  )

  -- the lines that a proof proves are determined: their literals, and the map of each universal
  pub unique : (L M : ℕ → ProofLine) → Proves m C text proof F L → Proves m C text proof F M → (i : ℕ) → 1 ≤ i → i ≤ announced proof
      → SameLiterals (L i).clause (M i).clause × ((u : ℕ) → Universal F u → (L i).map u ≡ (M i).map u)
  unique L M p q i lo hi = (
    same_trans hL.clause (same_sym hM.clause),
    universal_offset C F L i (λ u. (L i).map u ≡ (M i).map u) (λ j l. hL.maps j l ∙ sym (hM.maps j l)),
  )
    where
      a : (rows : List Row) × (checked_by m text proof ≡ accepted F rows)
      a = proved_accepted L p

      count : length a.0 ≡ announced proof
      count = pass_count m text proof F C decides a.0 (accepted_passes m text proof F a.0 a.1).0

      hL : HoldsLine F L a.0 i
      hL = (accepted_held a.0 a.1 L).0 p i lo (omega (arith, count))

      hM : HoldsLine F M a.0 i
      hM = (accepted_held a.0 a.1 M).0 q i lo (omega (arith, count))

  -- what is proved is a refutation as published
  pub proves_refutation : (L : ℕ → ProofLine) → Proves m C text proof F L → Refutation C F L (announced proof)
  proves_refutation L p = (
    announces form F proof p.derives.head_right,
    subst (Derivation C F L) (records_length form F proof) (follow_derivation (rules_of m F proof).decode C F L (records form F proof) p.derives.follow),
    p.empty,
  )

  -- Definition 14 as published: an accepted proof's rows are a merge resolution refutation of the formula
  pub published : (rows : List Row) → checked_by m text proof ≡ accepted F rows → Refutation C F (paper_lines F rows) (announced proof)
  published rows e = proves_refutation (paper_lines F rows) (accepted_proves rows e)
