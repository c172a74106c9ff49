-- The last maps of an accepted proof are a countermodel, so that its formula is false by the ordinary reading of its prefix.
use Rattle.std.specs.Prelude.{◌≡◌, Bool, true, false, ℕ, suc, ◌≤◌, ◌<◌, ltb, get_or, drop}
use Rattle.std.proofs.Math.Path.{refl}
use Rattle.std.proofs.Common.{ap, sym, ◌∙◌, true≢false, inl, inr, arith, drop-cons}
use mathlib.Core.List.{List, [], ◌∷◌, Memᴰ}
use Rattle.std.proofs.Math.Logic.{by_cases}
use Rattle.std.proofs.Math.Decide.{ℕ_discrete}
use Rattle.std.proofs.Math.ListN.{length, length-drop}
use borrow.Author.Tests.{eq-eqb, ne_eqb, ltb-false}
use Rattle.rules.specs.declared.Node.TheVariants.{Branch}
use Rattle.rules.specs.definitions.Limits.{lines_most}
use Rattle.rules.specs.definitions.Faults.{Fault, first_of}
use Rattle.rules.specs.definitions.Faults.Found.{passes}
use Rattle.rules.specs.definitions.Formula.{Quant, Bound, Clause, Formula, Assignment, Satisfies, with_value, Choice, Holds, False, bound_by, universals, left_of}
use Rattle.rules.specs.definitions.Formula.Quant.{exists, forall}
use Rattle.theory.specs.laws.Formula.{bound_by_place, place_bound_by, bound_universal, left_order, empty_clause_plain, empty_clause_negated}
use Rattle.rules.specs.definitions.Reading.{read}
use Rattle.rules.specs.definitions.Reading.Reading.{formula}
use Rattle.theory.specs.laws.Reading.{read_proper}
use Rattle.rules.specs.definitions.File.{Form, merge_proof, announced, records_at, head_fault, records}
use Rattle.theory.specs.laws.File.{length_split}
use Rattle.rules.specs.definitions.Maps.{Column, value_of, as_bool, Reached}
use Rattle.rules.specs.statements.Sound.{Sound}
use Rattle.theory.specs.laws.Maps.{walk_agree, reached_le, reached_positive}
use Rattle.theory.specs.laws.Comparing.{isomorphic_plays, test_decides}
use Rattle.rules.specs.definitions.Lines.{Row, clause_at, column, Rules, strict}
use Rattle.rules.specs.definitions.Checking.{last_empty, Manner, refuting, rules_of, checked_by}
use Rattle.rules.specs.definitions.Checking.Checked.{accepted}
use Rattle.rules.specs.statements.Proper.{var_at, kind_at, nowhere, Distinct, Proper}
use Rattle.rules.specs.statements.Good.{Good}
use Rattle.theory.specs.laws.Lines.{passes_cons, neither, good_derived, all_derived, column_branch, root_sound}
use Rattle.rules.specs.statements.Follows.{Derived}
use Rattle.rules.specs.statements.Plays.{played, line_plays, PlaysAlike}
use Rattle.theory.specs.theorems.Strategy.{played_universal, played_other, line_wins}
use Rattle.rules.specs.statements.Countermodel.{last_root, Countermodel, Strategy, LooksLeft, KeepsTo}
use Rattle.rules.specs.statements.Verdict.{AllPass}
use Rattle.theory.specs.theorems.FirstFault.{accepted_passes}

-- rows that all pass, the last clause empty
pub countermodel : (R : Rules) (F : Formula) → Proper F → PlaysAlike R.third_ground → (rows : List Row) → Derived R F rows → 1 ≤ length rows → last_empty rows ≡ true
    → Countermodel R.left F rows
countermodel R F proper alike rows derived some empty = record {
  wins = λ s. line_wins R F proper alike rows derived (length rows) some (omega arith) s (nothing s);
  reads = reads;
  depends = λ j l s t same. ap value_of (walk_agree (column rows j) s t (last_root rows j) (λ i x a b h e. let r = reads j l i x a b h e in same x r.0 r.1));
  numbered = λ j l i h.
      (reached_positive (sound j l).positive ((good (length rows) some (omega arith)).entry j l).root.0 h, reached_le (sound j l).falling h);
  given = λ j l i h. (sound j l).some i h;
  falling = λ j l i x a b h e. (sound j l).falling i x a b h e;
}
  where
    good : Good R F rows
    good = good_derived R F proper rows derived

    sound : (j : ℕ) → j < length (universals F.prefix) → Sound (column rows j) (last_root rows j)
    sound j l = root_sound R F rows good j l (length rows) some (omega arith)

    nothing : (s : Assignment) → Satisfies s (clause_at rows (length rows)) → ⊥
    nothing s (v, inl (p, q)) = true≢false (sym p ∙ empty_clause_plain (clause_at rows (length rows)) empty v)
    nothing s (v, inr (p, q)) = true≢false (sym p ∙ empty_clause_negated (clause_at rows (length rows)) empty v)

    reads : (j : ℕ) → j < length (universals F.prefix) → (i x a b : ℕ) → Reached (column rows j) (last_root rows j) i → column rows j i ≡ Branch x a b
        → (bound_by exists F.prefix x ≡ true) × (R.left x (get_or (universals F.prefix) j 0) ≡ true)
    reads j l i x a b h e = let g = column_branch R F rows good j l i x a b e in (g.existential, g.left)

-- every such play makes some clause false
abbrev pub Wins : List Bound → List Clause → Strategy → Type 0
Wins Q φ h = (s : Assignment) → KeepsTo Q h (length Q) s → (c : Clause) × Memᴰ c φ × (Satisfies s c → ⊥)

exists≢forall : exists ≡ forall → ⊥
exists≢forall e = let z : ◌≡◌ {A = ℕ} 0 1 = cc in omega arith

same_value : (s : Assignment) (v : ℕ) (b : Bool) → with_value s v b v ≡ b
same_value s v b = rw (eq-eqb v v refl)

other_value : (s : Assignment) (v w : ℕ) (b : Bool) → (w ≡ v → ⊥) → with_value s v b w ≡ s w
other_value s v w b n = rw (ne_eqb w v n)

-- a strategy for the universal player that looks only left, and after which some clause is false whatever the existential player does,
-- makes the formula false by the ordinary reading of its prefix
module _ (Q : List Bound) (φ : List Clause) (h : Strategy) (distinct : Distinct Q) (left : LooksLeft Q h) (wins : Wins Q φ h) where
  other : (s : Assignment) (b : Bool) (i k : ℕ) → i < k → k < length Q → with_value s (var_at Q k) b (var_at Q i) ≡ s (var_at Q i)
  other s b i k l n = other_value s (var_at Q k) (var_at Q i) b (λ e. let z : i ≡ k = distinct i k (omega arith) n e in omega arith)

  step : (k : ℕ) → k < length Q → (s : Assignment) (b : Bool) → KeepsTo Q h k s → (kind_at Q k ≡ forall → b ≡ h k s)
      → KeepsTo Q h (suc k) (with_value s (var_at Q k) b)
  step k n s b f e j l u = by_cases (ℕ_discrete j k) here earlier
    where
      s' : Assignment
      s' = with_value s (var_at Q k) b

      same : (i : ℕ) → i ≤ k → kind_at Q i ≡ forall → h i s ≡ h i s'
      same i m v = left i s s' (omega arith) v (λ x y z. sym (other s b x k (omega arith) n))

      here : j ≡ k → s' (var_at Q j) ≡ h j s'
      here p = rw p (same_value s (var_at Q k) b ∙ e (rw (← p) u) ∙ same k (omega arith) (rw (← p) u))

      earlier : (j ≡ k → ⊥) → s' (var_at Q j) ≡ h j s'
      earlier p = other s b j k (omega arith) n ∙ f j (omega arith) u ∙ same j (omega arith) u

  -- the rest of the prefix, qs, is lost from place k on
  Lost : List Bound → Type 0
  Lost qs = (k : ℕ) (s : Assignment) → drop k Q ≡ qs → KeepsTo Q h k s → Holds qs φ s → ⊥

  lost_end : Lost []
  unfolding Lost Holds
  lost_end k s e f t = lost.2 (t lost.0 lost.1)
    where
      past : length Q ≤ k
      past = omega (arith, simp length-drop at (ap length e))

      lost : (c : Clause) × Memᴰ c φ × (Satisfies s c → ⊥)
      lost = wins s (λ j l u. f j (omega (arith, past)) u)

  lost_more : (q : Bound) (qs : List Bound) → Lost qs → Lost (q ∷ qs)
  unfolding Lost Holds
  lost_more q qs rec k s e f t = by_kind q.kind refl t
    where
      n : k < length Q
      n = omega (arith, simp length-drop at (ap length e))

      is_q : get_or Q k nowhere ≡ q
      is_q = cc (drop-cons Q k nowhere n)

      is_qs : drop (suc k) Q ≡ qs
      is_qs = cc (drop-cons Q k nowhere n)

      next : (b : Bool) → (kind_at Q k ≡ forall → b ≡ h k s) → Holds qs φ (with_value s q.var b) → ⊥
      next b w m = rec (suc k) (with_value s q.var b) is_qs (rw (ap (λ (x : Bound). x.var) is_q) at (step k n s b f w)) m

      by_kind : (x : Quant) → q.kind ≡ x → Choice x (λ b. Holds qs φ (with_value s q.var b)) → ⊥
      by_kind exists p m = next m.0 (λ u. absurd (exists≢forall (sym p ∙ sym (ap (λ (x : Bound). x.kind) is_q) ∙ u))) m.1
      by_kind forall p m = next (h k s) (λ _. refl) (m (h k s))

  lost_all : (qs : List Bound) → Lost qs
  lost_all [] = lost_end
  lost_all (q ∷ qs) = lost_more q qs (lost_all qs)

  pub prefix_false : (s : Assignment) → Holds Q φ s → ⊥
  unfolding Lost
  prefix_false s t = lost_all Q 0 s refl (λ j l. absurd (omega arith)) t

-- a countermodel over the order of the prefix makes the formula false
pub countermodel_false : (F : Formula) → Proper F → (rows : List Row) → Countermodel (left_of F.prefix) F rows → False F
unfolding False
countermodel_false F proper rows M s = prefix_false Q F.matrix h proper.distinct looks wins s
  where
    Q : List Bound
    Q = F.prefix

    n : ℕ
    n = length rows

    h : Strategy
    h p t = played F rows n t (var_at Q p)

    universal : (p : ℕ) → p < length Q → kind_at Q p ≡ forall → (j : ℕ) × (j < length (universals Q)) × (get_or (universals Q) j 0 ≡ var_at Q p)
    universal p l k = bound_universal Q (var_at Q p) (rw k at (place_bound_by Q p l))

    h_plays : (p : ℕ) (l : p < length Q) (k : kind_at Q p ≡ forall) (t : Assignment) → h p t ≡ line_plays rows n t (universal p l k).0
    h_plays p l k t =
        let u = universal p l k in
        ap (played F rows n t) (sym u.2) ∙ played_universal F proper rows n t u.0 u.1

    looks : LooksLeft Q h
    looks p t t' l k same = h_plays p l k t ∙ ap as_bool (M.depends u.0 u.1 t t' agree) ∙ sym (h_plays p l k t')
      where
        u : (j : ℕ) × (j < length (universals Q)) × (get_or (universals Q) j 0 ≡ var_at Q p)
        u = universal p l k

        agree : (x : ℕ) → bound_by exists Q x ≡ true → left_of Q x (get_or (universals Q) u.0 0) ≡ true → t x ≡ t' x
        agree x b o =
            let e = bound_by_place exists Q x b in
            let z : left_of Q (var_at Q e.0) (var_at Q p) ≡ true = rw (e.3, ← u.2) o in
            rw e.3 at (same e.0 (left_order Q proper.distinct e.0 p e.1 l z) e.2)

    wins : Wins Q F.matrix h
    wins t f = let w = M.wins t in (w.0, w.1, λ c. w.2 (moved w.0 c))
      where
        same : (v : ℕ) → (b : Bool) → bound_by forall Q v ≡ b → t v ≡ played F rows n t v
        same v true e = let p = bound_by_place forall Q v e in rw p.3 at (f p.0 p.1 p.2)
        same v false e = sym (played_other F rows n t v (λ z. true≢false (sym z ∙ e)))

        moved : (c : Clause) → Satisfies t c → Satisfies (played F rows n t) c
        moved c (v, inl (p, q)) = (v, inl (p, sym (same v (bound_by forall Q v) refl) ∙ q))
        moved c (v, inr (p, q)) = (v, inr (p, sym (same v (bound_by forall Q v) refl) ∙ q))

-- ---- 01's third ground
pub strict_alike : PlaysAlike strict
strict_alike T r t S U hr ht e s = isomorphic_plays T r T t S.falling ((test_decides T r T t S U hr ht).0 e) U.falling s

third_passes : (f g h : Fault) (fs : List Fault) → first_of (f ∷ g ∷ h ∷ fs) ≡ passes → h.when ≡ false
third_passes f g h fs e = ((passes_cons h fs).0 ((passes_cons g (h ∷ fs)).0 ((passes_cons f (g ∷ h ∷ fs)).0 e).1).1).0

module _ (form : Form) (F : Formula) (proof : List ℕ) (h : head_fault form F proof ≡ passes) where
  announced_right : (1 ≤ announced proof) × (announced proof ≤ lines_most)
  unfolding head_fault
  announced_right =
      let o = neither (ltb (announced proof) 1) (ltb lines_most (announced proof)) (third_passes _ _ _ _ h) in
      (ltb-false (announced proof) 1 o.0, ltb-false lines_most (announced proof) o.1)

  -- a head that passes announces a line, and no more lines than there may be
  pub head_some : 1 ≤ length (records form F proof)
  unfolding records
  head_some = omega (arith, length_split (announced proof) (drop (records_at form F proof) proof), announced_right)

  pub head_few : length (records form F proof) ≤ lines_most
  unfolding records
  head_few = omega (arith, length_split (announced proof) (drop (records_at form F proof) proof), announced_right)

-- ---- rows that all pass
module _ (m : Manner) (text proof : List ℕ) (F : Formula) (rows : List Row) (P : AllPass m text proof F rows) where
  R : Rules
  R = rules_of m F proof

  made : Derived (rules_of m F proof) F rows × (length rows ≡ length (records m.form F proof))
  made = all_derived (rules_of m F proof) F (records m.form F proof) rows P.lines

  pub pass_proper : Proper F
  pass_proper = read_proper text F P.begun.given

  -- they are derived, from 1 to 1,024
  pub pass_derived : Derived (rules_of m F proof) F rows
  pass_derived = made.0

  pub pass_lines : (1 ≤ length rows) × (length rows ≤ lines_most)
  pass_lines = (omega (arith, made.1, head_some m.form F proof P.begun.head), omega (arith, made.1, head_few m.form F proof P.begun.head))

  -- they are good rows
  pub pass_good : Good (rules_of m F proof) F rows
  pass_good = good_derived (rules_of m F proof) F pass_proper rows pass_derived

  -- settings that make a line's clause false lose by its maps
  pub pass_wins : PlaysAlike m.third_ground → (i : ℕ) → 1 ≤ i → i ≤ length rows → (s : Assignment) → (Satisfies s (clause_at rows i) → ⊥)
      → (c : Clause) × Memᴰ c F.matrix × (Satisfies (played F rows i s) c → ⊥)
  pass_wins alike = line_wins (rules_of m F proof) F pass_proper alike rows pass_derived

  -- with an empty last clause, the last maps are a countermodel over the rules' own left
  pub pass_countermodel : PlaysAlike m.third_ground → last_empty rows ≡ true → Countermodel (rules_of m F proof).left F rows
  pass_countermodel alike empty = countermodel (rules_of m F proof) F pass_proper alike rows pass_derived pass_lines.0 empty

-- the rows of an accepted proof are good rows of a proper formula, from 1 to 1,024
pub accepted_good : (m : Manner) (text proof : List ℕ) (F : Formula) (rows : List Row) → checked_by m text proof ≡ accepted F rows → Proper F × Good (rules_of m F proof) F rows
accepted_good m text proof F rows h = let a = accepted_passes m text proof F rows h in (pass_proper m text proof F rows a.0, pass_good m text proof F rows a.0)

pub accepted_lines : (m : Manner) (text proof : List ℕ) (F : Formula) (rows : List Row) → checked_by m text proof ≡ accepted F rows → (1 ≤ length rows) × (length rows ≤ lines_most)
accepted_lines m text proof F rows h = pass_lines m text proof F rows (accepted_passes m text proof F rows h).0

-- ---- what checking for a refutation accepts
module _ (third_ground : Column → ℕ → ℕ → Bool) (alike : PlaysAlike third_ground) (text proof : List ℕ) (F : Formula) (rows : List Row) where
  -- the last maps are a countermodel of the formula that was read
  pub accepted_wins : (form : Form) → checked_by (refuting third_ground form) text proof ≡ accepted F rows
      → (read text ≡ formula F) × Countermodel (rules_of (refuting third_ground form) F proof).left F rows
  accepted_wins form h =
      let a = accepted_passes (refuting third_ground form) text proof F rows h in
      (a.0.begun.given, pass_countermodel (refuting third_ground form) text proof F rows a.0 alike a.1)

  -- a text with a merge proof that is accepted is a false formula
  pub accepted_false : checked_by (refuting third_ground merge_proof) text proof ≡ accepted F rows → (read text ≡ formula F) × False F
  accepted_false h = let w = accepted_wins merge_proof h in (w.0, countermodel_false F (read_proper text F w.0) rows w.1)
