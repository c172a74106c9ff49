-- Rows hold 004's lines: a line follows by the rule that its record names exactly where it passes and its row holds it.
use Rattle.std.proofs.Math.Path.{◌≡◌, refl, ap₂, sym, subst, subst₂}
use Rattle.std.proofs.Common.{Ok, ap, ◌∙◌, true≢false, inl, inr, arith}
use Rattle.std.specs.Prelude.{Bool, ◌&&◌, ◌↔◌, get_or}
use Rattle.std.proofs.Math.Bool.{true, false}
use Rattle.std.proofs.lemmas.Bool.{false≢true}
use mathlib.Core.List.{List, [], ◌∷◌, ◌++◌}
use Rattle.std.proofs.Math.Logic.{by_cases}
use Prim.Native.Nat.{ℕ, zero, suc, ◌+◌, ◌≤◌, ◌<◌}
use Rattle.std.proofs.Math.Decide.{dec_lt}
use Rattle.std.proofs.Math.ListN.{length}
use Rattle.rules.specs.declared.Resolution.{Resolution}
use Rattle.rules.specs.declared.Line.{Line}
use Rattle.rules.specs.declared.Line.TheVariants.{Axiom, Resolve}
use Rattle.theory.specs.laws.Bits.{bit_past, members_below}
use Rattle.rules.specs.definitions.Sets.{has}
use Rattle.rules.specs.definitions.Formula.{Clause, Formula, bound_by, universals, existentials, kept_by, resolvent}
use Rattle.rules.specs.definitions.Formula.Quant.{exists}
use Rattle.rules.specs.definitions.Maps.{Column, star?}
use Rattle.rules.specs.definitions.Lines.{Entry, Row, no_entry, clause_at, column, root_at, Rules, falsifying, clause_number, leaf_entry, axiom_row, select, defined, kept_root, in_set, result, selected, map_entry, resolution_row, Made, next_line}
use Rattle.rules.specs.definitions.Lines.Made.{made, refused}
use Rattle.rules.specs.definitions.Checking.{lines_from, all_lines}
use Rattle.rules.specs.definitions.Checking.Passed.{passed}
use Rattle.rules.specs.definitions.Paper.{Map, Consistent, single, Trivial, Select, merge, ProofLine, SameLiterals, ExistentialPart, Calculus, Merged}
use Rattle.rules.specs.definitions.Paper.Select.{first, second}
use Rattle.rules.specs.definitions.Named.{universal_at, NamedAxiom, NamedResolution, Named, FollowsRecord, Follow}
use Rattle.theory.specs.laws.Sets.{and_left, and_right, has_range}
use Rattle.theory.specs.laws.Formula.{proper_fits, has_existentials, has_kept_plain, has_kept_negated, has_resolvent_plain, has_resolvent_negated, two_faced_has, has_two_faced}
use Rattle.rules.specs.statements.Sound.{FallingFrom, Sound}
use Rattle.theory.specs.laws.Maps.{reached_le}
use Rattle.rules.specs.statements.Proper.{Proper}
use Rattle.rules.specs.statements.Good.{Good}
use Rattle.theory.specs.laws.Lines.{row_new, rows_grown, clause_before, column_before, root_before, column_new, root_new, each_at, Selects, select_keeps, root_sound, column_falling, next_follows, follows_next, good_follows, good_next}
use Rattle.rules.specs.statements.Follows.{Resolves, Follows}
use Rattle.rules.specs.statements.Held.{map_at, HoldsLine, Hold}
use Rattle.rules.specs.statements.Proves.{Decides}
use Rattle.theory.specs.laws.Paper.{map_same, map_leaf, map_branch, stands, stands_consistent, stands_trivial}

-- ---- the same literals
pub same_sym : {C D : Clause} → SameLiterals C D → SameLiterals D C
same_sym s = record { plain = λ v. sym (s.plain v); negated = λ v. sym (s.negated v) }

pub same_trans : {C D E : Clause} → SameLiterals C D → SameLiterals D E → SameLiterals C E
same_trans s t = record { plain = λ v. s.plain v ∙ t.plain v; negated = λ v. s.negated v ∙ t.negated v }

-- resolvents of the same literals are the same, where the pivot stands plain in the first clause and negated in the second
same_resolvent : (C D C' D' : Clause) (x : ℕ) → SameLiterals C C' → SameLiterals D D' → has C.plain x ≡ true → has D.negated x ≡ true
    → SameLiterals (resolvent C D x) (resolvent C' D' x)
same_resolvent C D C' D' x sC sD p q =
    let rp = has_range C.plain x p in
    let rp' = has_range C'.plain x (sym (sC.plain x) ∙ p) in
    let rn = has_range D.negated x q in
    let rn' = has_range D'.negated x (sym (sD.negated x) ∙ q) in
    record {
      plain = λ v. has_resolvent_plain C D x v rp.0 rp.1 ∙ rw (sC.plain v, sD.plain v) (sym (has_resolvent_plain C' D' x v rp'.0 rp'.1));
      negated = λ v. has_resolvent_negated C D x v rn.0 rn.1 ∙ rw (sC.negated v, sD.negated v) (sym (has_resolvent_negated C' D' x v rn'.0 rn'.1));
    }

-- the existential subclause is the clause that the axiom keeps
same_bool : (a b : Bool) → (a ≡ true → b ≡ true) → (b ≡ true → a ≡ true) → a ≡ b
same_bool true true f g = refl
same_bool true false f g = sym (f refl)
same_bool false true f g = g refl
same_bool false false f g = refl

and_both : (a b : Bool) → a ≡ true → b ≡ true → (a && b) ≡ true
and_both true b p q = q
and_both false b p q = absurd (false≢true p)

module _ (F : Formula) (proper : Proper F) where
  kept_plain : (D : Clause) (v : ℕ) → has (kept_by (existentials F.prefix) D).plain v ≡ (has D.plain v && bound_by exists F.prefix v)
  kept_plain D v = has_kept_plain (existentials F.prefix) D v ∙ ap (λ (t : Bool). has D.plain v && t) (has_existentials F.prefix (proper_fits F proper) v)

  kept_negated : (D : Clause) (v : ℕ) → has (kept_by (existentials F.prefix) D).negated v ≡ (has D.negated v && bound_by exists F.prefix v)
  kept_negated D v = has_kept_negated (existentials F.prefix) D v ∙ ap (λ (t : Bool). has D.negated v && t) (has_existentials F.prefix (proper_fits F proper) v)

  pub existential_part : (C D : Clause) → ExistentialPart F C D ↔ SameLiterals C (kept_by (existentials F.prefix) D)
  existential_part C D = (forth, back)
    where
      E : ℕ → Bool
      E v = bound_by exists F.prefix v

      forth : ExistentialPart F C D → SameLiterals C (kept_by (existentials F.prefix) D)
      forth part = record {
        plain = λ v. same_bool (has C.plain v) (has D.plain v && E v)
            (λ p. let e = part.plain v p in and_both (has D.plain v) (E v) e.0 e.1)
            (λ p. part.plain_all v (and_left (has D.plain v) (E v) p) (and_right (has D.plain v) (E v) p)) ∙ sym (kept_plain D v);
        negated = λ v. same_bool (has C.negated v) (has D.negated v && E v)
            (λ p. let e = part.negated v p in and_both (has D.negated v) (E v) e.0 e.1)
            (λ p. part.negated_all v (and_left (has D.negated v) (E v) p) (and_right (has D.negated v) (E v) p)) ∙ sym (kept_negated D v);
      }

      back : SameLiterals C (kept_by (existentials F.prefix) D) → ExistentialPart F C D
      back s = record {
        plain = λ v p. let h : (has D.plain v && E v) ≡ true = sym (s.plain v ∙ kept_plain D v) ∙ p in (and_left (has D.plain v) (E v) h, and_right (has D.plain v) (E v) h);
        plain_all = λ v p q. s.plain v ∙ kept_plain D v ∙ and_both (has D.plain v) (E v) p q;
        negated = λ v p. let h : (has D.negated v && E v) ≡ true = sym (s.negated v ∙ kept_negated D v) ∙ p in (and_left (has D.negated v) (E v) h, and_right (has D.negated v) (E v) h);
        negated_all = λ v p q. s.negated v ∙ kept_negated D v ∙ and_both (has D.negated v) (E v) p q;
      }

-- ---- select, of the maps of two roots of one column: it is defined where the test is, and is the map of the root kept
module _ (R : Rules) (C : Calculus) (decides : Decides R C) (T : Column) (a b : ℕ) (Sa : Sound T a) (Sb : Sound T b) (la : 1 ≤ a) (lb : 1 ≤ b) where
  trivial : (r : ℕ) → Sound T r → Trivial (map_at T r) ↔ (star? (T r) ≡ true)
  trivial r S = stands_trivial T r (map_at T r) (stands T r S)

  alike : C.Same (map_at T a) (map_at T b) ↔ (R.third_ground T a b ≡ true)
  alike = decides.same T a b Sa Sb la lb

  pub select_defined : (K : Map) → Select C.Same (map_at T a) (map_at T b) K → (defined (select R.third_ground T a b) ≡ true) × (K ≡ map_at T (kept_root (select R.third_ground T a b)))
  unfolding select
  select_defined K (second t) = let p = (trivial a Sa).0 t in (rw (select, p), rw (select, p))
  select_defined K (first n (inl I)) = by (star? (T a)) refl (star? (T b)) refl
    where
      by : (p : Bool) → star? (T a) ≡ p → (q : Bool) → star? (T b) ≡ q → (defined (select R.third_ground T a b) ≡ true) × (map_at T a ≡ map_at T (kept_root (select R.third_ground T a b)))
      by true p q e = absurd (n ((trivial a Sa).1 p))
      by false p true e = (rw (select, p, e), rw (select, p, e))
      by false p false e = let i = alike.0 I in (rw (select, p, e, i), rw (select, p, e, i))
  select_defined K (first n (inr t)) = by (star? (T a)) refl
    where
      by : (p : Bool) → star? (T a) ≡ p → (defined (select R.third_ground T a b) ≡ true) × (map_at T a ≡ map_at T (kept_root (select R.third_ground T a b)))
      by true p = absurd (n ((trivial a Sa).1 p))
      by false p = let q = (trivial b Sb).0 t in (rw (select, p, q), rw (select, p, q))

  pub defined_select : defined (select R.third_ground T a b) ≡ true → Select C.Same (map_at T a) (map_at T b) (map_at T (kept_root (select R.third_ground T a b)))
  defined_select d = by (kept_root (select R.third_ground T a b)) (select_keeps R.third_ground T a b d)
    where
      not_trivial : star? (T a) ≡ false → Trivial (map_at T a) → ⊥
      not_trivial p t = true≢false (sym ((trivial a Sa).0 t) ∙ p)

      by : (r : ℕ) → Selects R.third_ground T a b r → Select C.Same (map_at T a) (map_at T b) (map_at T r)
      by r (Selects.second p) = second ((trivial a Sa).1 p)
      by r (Selects.first p q) = first (not_trivial p) (inr ((trivial b Sb).1 q))
      by r (Selects.third p q o) = first (not_trivial p) (inl (alike.1 o))

-- one row more
module _ (R : Rules) (F : Formula) (rows : List Row) (good : Good R F rows) (row : Row) where
  -- the maps of earlier lines stay
  old_map : (j : ℕ) → j < length (universals F.prefix) → (r : ℕ) → r ≤ length rows → map_at (column (rows ++ (row ∷ [])) j) r ≡ map_at (column rows j) r
  old_map j l r h = sym (map_same (column rows j) (column (rows ++ (row ∷ [])) j) r falls (λ k g. column_before rows row j k (omega (arith, reached_le falls g))))
    where
      falls : FallingFrom (column rows j) r
      falls i x a b g e = column_falling R F rows good j l i x a b e

  old_line_map : (i j : ℕ) → 1 ≤ i → i ≤ length rows → j < length (universals F.prefix)
      → map_at (column (rows ++ (row ∷ [])) j) (root_at (rows ++ (row ∷ [])) j i) ≡ map_at (column rows j) (root_at rows j i)
  old_line_map i j p q l =
      ap (map_at (column (rows ++ (row ∷ [])) j)) (root_before rows row j i q)
      ∙ old_map j l (root_at rows j i) (omega (arith, ((good i p q).entry j l).root.1))

  holds_before : (L : ℕ → ProofLine) (i : ℕ) → 1 ≤ i → i ≤ length rows → HoldsLine F L (rows ++ (row ∷ [])) i → HoldsLine F L rows i
  holds_before L i p q h = record {
    clause = subst (SameLiterals (L i).clause) (clause_before rows row i q) h.clause;
    maps = λ j l. h.maps j l ∙ old_line_map i j p q l;
  }

  holds_after : (L : ℕ → ProofLine) (i : ℕ) → 1 ≤ i → i ≤ length rows → HoldsLine F L rows i → HoldsLine F L (rows ++ (row ∷ [])) i
  holds_after L i p q h = record {
    clause = subst (SameLiterals (L i).clause) (sym (clause_before rows row i q)) h.clause;
    maps = λ j l. h.maps j l ∙ sym (old_line_map i j p q l);
  }

-- an axiom's map is its leaf
axiom_map : (F : Formula) (rows : List Row) (c j : ℕ) → j < length (universals F.prefix)
    → map_at (column (rows ++ (axiom_row F (suc (length rows)) c ∷ [])) j) (root_at (rows ++ (axiom_row F (suc (length rows)) c ∷ [])) j (suc (length rows)))
    ≡ single (suc (length rows)) (falsifying (clause_number F c) (universal_at F j))
unfolding axiom_row
axiom_map F rows c j l =
    ap (map_at (column (rows ++ (row ∷ [])) j)) (root_new rows row j ∙ ap (λ (e : Entry). e.root) entry)
    ∙ map_leaf (column (rows ++ (row ∷ [])) j) n (falsifying (clause_number F c) (universal_at F j)) (column_new rows row j ∙ ap (λ (e : Entry). e.node) entry)
  where
    n : ℕ
    n = suc (length rows)

    row : Row
    row = axiom_row F n c

    entry : get_or (axiom_row F (suc (length rows)) c).entries j no_entry ≡ leaf_entry (clause_number F c) (suc (length rows)) j (universal_at F j)
    entry = each_at (leaf_entry (clause_number F c) (suc (length rows))) (universals F.prefix) j no_entry l

module _ (R : Rules) (F : Formula) (proper : Proper F) (L : ℕ → ProofLine) (rows : List Row) (good : Good R F rows) where
  axiom_named : (c : ℕ) → (1 ≤ c) × (c ≤ length F.matrix) → HoldsLine F L (rows ++ (axiom_row F (suc (length rows)) c ∷ [])) (suc (length rows)) → NamedAxiom F L (suc (length rows)) c
  unfolding axiom_row
  axiom_named c number h = record {
    number = number;
    clause = (existential_part F proper (L (suc (length rows))).clause (clause_number F c)).1
        (subst (SameLiterals (L (suc (length rows))).clause) (ap (λ (r : Row). r.clause) (row_new rows (axiom_row F (suc (length rows)) c))) h.clause);
    maps = λ j l. h.maps j l ∙ axiom_map F rows c j l;
  }

  named_axiom : (c : ℕ) → NamedAxiom F L (suc (length rows)) c → HoldsLine F L (rows ++ (axiom_row F (suc (length rows)) c ∷ [])) (suc (length rows))
  unfolding axiom_row
  named_axiom c h = record {
    clause = subst (SameLiterals (L (suc (length rows))).clause) (sym (ap (λ (r : Row). r.clause) (row_new rows (axiom_row F (suc (length rows)) c))))
        ((existential_part F proper (L (suc (length rows))).clause (clause_number F c)).0 h.clause);
    maps = λ j l. h.maps j l ∙ sym (axiom_map F rows c j l);
  }

-- the row that a resolution makes, and the rows with it
abbrev resolved : Rules → Formula → List Row → Resolution → Row
resolved R F rows r = resolution_row R F rows (suc (length rows)) r (in_set r.merge)

-- a resolution's maps: the merge of its parents' maps, or the map of the root that select keeps
module _ (R : Rules) (F : Formula) (rows : List Row) (good : Good R F rows) (r : Resolution) where
  abbrev new_row : Row
  new_row = resolved R F rows r

  abbrev grown : List Row
  grown = rows ++ (resolved R F rows r ∷ [])

  resolution_entry : (j : ℕ) → j < length (universals F.prefix)
      → get_or (resolved R F rows r).entries j no_entry
      ≡ map_entry R rows (suc (length rows)) r (in_set r.merge) j (universal_at F j)
  unfolding resolution_row
  resolution_entry j l = each_at (map_entry R rows (suc (length rows)) r (in_set r.merge)) (universals F.prefix) j no_entry l

  module _ (j : ℕ) (l : j < length (universals F.prefix)) (a_earlier : (1 ≤ r.a) × (r.a < suc (length rows))) (b_earlier : (1 ≤ r.b) × (r.b < suc (length rows))) where
    abbrev a_map : Map
    a_map = map_at (column rows j) (root_at rows j r.a)

    abbrev b_map : Map
    b_map = map_at (column rows j) (root_at rows j r.b)

    a_root : (1 ≤ root_at rows j r.a) × (root_at rows j r.a ≤ length rows)
    a_root = let h = ((good r.a a_earlier.0 (omega arith)).entry j l).root in (h.0, omega arith)

    b_root : (1 ≤ root_at rows j r.b) × (root_at rows j r.b ≤ length rows)
    b_root = let h = ((good r.b b_earlier.0 (omega arith)).entry j l).root in (h.0, omega arith)

    a_sound : Sound (column rows j) (root_at rows j r.a)
    a_sound = root_sound R F rows good j l r.a a_earlier.0 (omega arith)

    b_sound : Sound (column rows j) (root_at rows j r.b)
    b_sound = root_sound R F rows good j l r.b b_earlier.0 (omega arith)

    parents_consistent : Consistent a_map b_map
    parents_consistent = stands_consistent (column rows j) (root_at rows j r.a) (root_at rows j r.b) a_map b_map (stands _ _ a_sound) (stands _ _ b_sound)

    new_root : root_at grown j (suc (length rows)) ≡ (map_entry R rows (suc (length rows)) r (in_set r.merge) j (universal_at F j)).root
    new_root = root_new rows new_row j ∙ ap (λ (e : Entry). e.root) (resolution_entry j l)

    merged_map : in_set r.merge j ≡ true → Good R F grown → map_at (column grown j) (root_at grown j (suc (length rows))) ≡ merge a_map b_map (suc (length rows)) r.pivot
    merged_map e good' =
        ap (map_at (column grown j)) (new_root ∙ rw (map_entry, e))
        ∙ map_branch (column grown j) (suc (length rows)) r.pivot (root_at rows j r.a) (root_at rows j r.b)
        (λ i x a b h f. column_falling R F grown good' j l i x a b f)
        (column_new rows new_row j ∙ ap (λ (e : Entry). e.node) (resolution_entry j l) ∙ rw (map_entry, e))
        ∙ ap₂ (λ (M N : Map). merge M N (suc (length rows)) r.pivot)
        (old_map R F rows good new_row j l (root_at rows j r.a) a_root.1)
        (old_map R F rows good new_row j l (root_at rows j r.b) b_root.1)

    kept_old : (k : ℕ) → Selects R.third_ground (column rows j) (root_at rows j r.a) (root_at rows j r.b) k → k ≤ length rows
    kept_old k (Selects.second p) = b_root.1
    kept_old k (Selects.first p q) = a_root.1
    kept_old k (Selects.third p q o) = a_root.1

    selected_map : in_set r.merge j ≡ false → defined (selected R rows r j) ≡ true
        → map_at (column grown j) (root_at grown j (suc (length rows))) ≡ map_at (column rows j) (kept_root (selected R rows r j))
    selected_map e d =
        ap (map_at (column grown j)) (new_root ∙ rw (map_entry, e))
        ∙ old_map R F rows good new_row j l (kept_root (selected R rows r j))
        (kept_old _ (select_keeps R.third_ground (column rows j) (root_at rows j r.a) (root_at rows j r.b) d))

module _ (R : Rules) (C : Calculus) (decides : Decides R C) (F : Formula) (L : ℕ → ProofLine) (rows : List Row) (good : Good R F rows) (hold : Hold F L rows) (r : Resolution) where
  -- of a line that follows and is held, the rule that its record names
  resolution_named : Resolves R F rows (suc (length rows)) r → Good R F (rows ++ (resolved R F rows r ∷ []))
      → HoldsLine F L (rows ++ (resolved R F rows r ∷ [])) (suc (length rows)) → NamedResolution C F L (suc (length rows)) r
  unfolding resolution_row
  resolution_named p good' h = record {
    a_earlier = p.parents.a_earlier;
    b_earlier = p.parents.b_earlier;
    pivot = p.parents.pivot;
    in_a = in_a;
    in_b = in_b;
    present = λ j e. by_cases (dec_lt j (length (universals F.prefix))) (λ q. q)
        (λ q. absurd (true≢false (sym e ∙ bit_past (length (universals F.prefix)) r.merge j p.merge (omega arith))));
    clause = same_trans clause (same_sym (same_resolvent (L r.a).clause (L r.b).clause (clause_at rows r.a) (clause_at rows r.b) r.pivot a_held.clause b_held.clause in_a in_b));
    house = λ v s t. two_faced_has (result rows r) p.one_way v (sym (clause.plain v) ∙ s) (sym (clause.negated v) ∙ t);
    merged = λ j l e. subst₂ (λ (M N : Map). Merged C r.pivot (universal_at F j) M N (suc (length rows)) ((L (suc (length rows))).map (universal_at F j)))
        (sym (a_held.maps j l)) (sym (b_held.maps j l)) (
          (decides.left r.pivot (universal_at F j)).1 (p.maps.left j l e),
          parents_consistent R F rows good r j l p.parents.a_earlier p.parents.b_earlier,
          h.maps j l ∙ merged_map R F rows good r j l p.parents.a_earlier p.parents.b_earlier e good',
        );
    selected = λ j l e. subst₂ (λ (M N : Map). Select C.Same M N ((L (suc (length rows))).map (universal_at F j)))
        (sym (a_held.maps j l)) (sym (b_held.maps j l))
        (subst (Select C.Same _ _) (sym (h.maps j l ∙ selected_map R F rows good r j l p.parents.a_earlier p.parents.b_earlier e (p.maps.selects j l e)))
        (defined_select R C decides (column rows j) (root_at rows j r.a) (root_at rows j r.b)
        (a_sound R F rows good r j l p.parents.a_earlier p.parents.b_earlier) (b_sound R F rows good r j l p.parents.a_earlier p.parents.b_earlier)
        (a_root R F rows good r j l p.parents.a_earlier p.parents.b_earlier).0 (b_root R F rows good r j l p.parents.a_earlier p.parents.b_earlier).0
        (p.maps.selects j l e)));
  }
    where
      a_held : HoldsLine F L rows r.a
      a_held = hold r.a p.parents.a_earlier.0 (omega (arith, p.parents.a_earlier))

      b_held : HoldsLine F L rows r.b
      b_held = hold r.b p.parents.b_earlier.0 (omega (arith, p.parents.b_earlier))

      in_a : has (L r.a).clause.plain r.pivot ≡ true
      in_a = a_held.clause.plain r.pivot ∙ p.parents.plain

      in_b : has (L r.b).clause.negated r.pivot ≡ true
      in_b = b_held.clause.negated r.pivot ∙ p.parents.negated

      clause : SameLiterals (L (suc (length rows))).clause (result rows r)
      clause = subst (SameLiterals (L (suc (length rows))).clause) (ap (λ (w : Row). w.clause) (row_new rows (resolved R F rows r))) h.clause

  -- a line that the named rule gives follows, and is the one that the row made holds
  module _ (h : NamedResolution C F L (suc (length rows)) r) where
    a_line : HoldsLine F L rows r.a
    a_line = hold r.a h.a_earlier.0 (omega (arith, h.a_earlier))

    b_line : HoldsLine F L rows r.b
    b_line = hold r.b h.b_earlier.0 (omega (arith, h.b_earlier))

    result_clause : SameLiterals (L (suc (length rows))).clause (result rows r)
    result_clause = same_trans h.clause
        (same_resolvent (L r.a).clause (L r.b).clause (clause_at rows r.a) (clause_at rows r.b) r.pivot a_line.clause b_line.clause h.in_a h.in_b)

    selects : (j : ℕ) → j < length (universals F.prefix) → in_set r.merge j ≡ false
        → (defined (selected R rows r j) ≡ true) × ((L (suc (length rows))).map (universal_at F j) ≡ map_at (column rows j) (kept_root (selected R rows r j)))
    selects j l e = select_defined R C decides (column rows j) (root_at rows j r.a) (root_at rows j r.b)
        (a_sound R F rows good r j l h.a_earlier h.b_earlier) (b_sound R F rows good r j l h.a_earlier h.b_earlier)
        (a_root R F rows good r j l h.a_earlier h.b_earlier).0 (b_root R F rows good r j l h.a_earlier h.b_earlier).0
        ((L (suc (length rows))).map (universal_at F j))
        (subst₂ (λ (M N : Map). Select C.Same M N ((L (suc (length rows))).map (universal_at F j))) (a_line.maps j l) (b_line.maps j l) (h.selected j l e))

    named_resolves : Resolves R F rows (suc (length rows)) r
    named_resolves = record {
      parents = record {
        a_earlier = h.a_earlier;
        b_earlier = h.b_earlier;
        pivot = h.pivot;
        plain = sym (a_line.clause.plain r.pivot) ∙ h.in_a;
        negated = sym (b_line.clause.negated r.pivot) ∙ h.in_b;
      };
      merge = members_below (length (universals F.prefix)) r.merge h.present;
      one_way = has_two_faced (result rows r) (λ v p q. h.house v (result_clause.plain v ∙ p) (result_clause.negated v ∙ q));
      maps = record { left = λ j l e. (decides.left r.pivot (universal_at F j)).0 (h.merged j l e).0; selects = λ j l e. (selects j l e).0 };
    }

    named_held : Good R F (rows ++ (resolved R F rows r ∷ [])) → HoldsLine F L (rows ++ (resolved R F rows r ∷ [])) (suc (length rows))
    unfolding resolution_row
    named_held good' = record {
      clause = subst (SameLiterals (L (suc (length rows))).clause) (sym (ap (λ (w : Row). w.clause) (row_new rows (resolved R F rows r)))) result_clause;
      maps = λ j l. by j l (in_set r.merge j) refl;
    }
      where
        by : (j : ℕ) → j < length (universals F.prefix) → (t : Bool) → in_set r.merge j ≡ t
            → (L (suc (length rows))).map (universal_at F j)
            ≡ map_at (column (rows ++ (resolved R F rows r ∷ [])) j) (root_at (rows ++ (resolved R F rows r ∷ [])) j (suc (length rows)))
        by j l true e = (h.merged j l e).2 ∙ ap₂ (λ (M N : Map). merge M N (suc (length rows)) r.pivot) (a_line.maps j l) (b_line.maps j l)
            ∙ sym (merged_map R F rows good r j l h.a_earlier h.b_earlier e good')
        by j l false e = let d = selects j l e in d.1 ∙ sym (selected_map R F rows good r j l h.a_earlier h.b_earlier e d.0)

-- ---- one line: it follows and its row holds it exactly where it follows by the rule that its record names
module _ (R : Rules) (C : Calculus) (decides : Decides R C) (F : Formula) (proper : Proper F) (L : ℕ → ProofLine) (rows : List Row) (good : Good R F rows) (hold : Hold F L rows) where
  follows_named : (l : Line) (row : Row) → Follows R F rows (suc (length rows)) l row → HoldsLine F L (rows ++ (row ∷ [])) (suc (length rows))
      → Named C F L (suc (length rows)) l
  follows_named (Axiom c) row f h = axiom_named R F proper L rows good c f.0 (subst (λ (w : Row). HoldsLine F L (rows ++ (w ∷ [])) (suc (length rows))) f.1 h)
  follows_named (Resolve r) row f h = resolution_named R C decides F L rows good hold r f.0
      (good_follows R F rows (Resolve r) (resolved R F rows r) proper good (f.0, refl))
      (subst (λ (w : Row). HoldsLine F L (rows ++ (w ∷ [])) (suc (length rows))) f.1 h)

  named_follows : (l : Line) → Named C F L (suc (length rows)) l
      → (row : Row) × Follows R F rows (suc (length rows)) l row × HoldsLine F L (rows ++ (row ∷ [])) (suc (length rows))
  named_follows (Axiom c) h = (axiom_row F (suc (length rows)) c, (h.number, refl), named_axiom R F proper L rows good c h)
  named_follows (Resolve r) h =
      let f = named_resolves R C decides F L rows good hold r h in
      (resolved R F rows r, (f, refl), named_held R C decides F L rows good hold r h (good_follows R F rows (Resolve r) (resolved R F rows r) proper good (f, refl)))

  -- the rows before and the new one
  hold_more : (row : Row) → HoldsLine F L (rows ++ (row ∷ [])) (suc (length rows)) → Hold F L (rows ++ (row ∷ []))
  hold_more row h i p q = by_cases (dec_lt (length rows) i)
      (λ s. subst (HoldsLine F L (rows ++ (row ∷ []))) (omega (arith, rows_grown rows row)) h)
      (λ s. holds_after R F rows good row L i p (omega arith) (hold i p (omega arith)))

-- ---- all lines
module _ (R : Rules) (C : Calculus) (decides : Decides R C) (F : Formula) (proper : Proper F) (L : ℕ → ProofLine) where
  -- lines that pass, to rows that hold them, follow from their records
  passed_named : (rows : List Row) (rs : List (List ℕ)) (end : List Row) → Good R F rows → lines_from R F rows rs ≡ passed end → Hold F L end
      → Hold F L rows × ((i : ℕ) → i < length rs → FollowsRecord R.decode C F L (suc (length rows + i)) (get_or rs i []))
  unfolding lines_from
  passed_named rows [] end good e hold = let p : end ≡ rows = cc in (subst (Hold F L) p hold, λ i l. absurd (omega arith))
  passed_named rows (r ∷ rs) end good e hold = by (next_line R F rows r) refl (λ row. passed_named (rows ++ (row ∷ [])) rs end)
    where
      by : (m : Made) → next_line R F rows r ≡ m
          → ((row : Row) → Good R F (rows ++ (row ∷ [])) → lines_from R F (rows ++ (row ∷ [])) rs ≡ passed end → Hold F L end
          → Hold F L (rows ++ (row ∷ [])) × ((i : ℕ) → i < length rs → FollowsRecord R.decode C F L (suc (length (rows ++ (row ∷ [])) + i)) (get_or rs i [])))
          → Hold F L rows × ((i : ℕ) → i < suc (length rs) → FollowsRecord R.decode C F L (suc (length rows + i)) (get_or (r ∷ rs) i []))
      by (refused n v) m ih = let z : ◌≡◌ {A = ℕ} 0 1 = cc (rw (lines_from, m) at e) in absurd (omega arith)
      by (made row) m ih = (before, at)
        where
          more : Hold F L (rows ++ (row ∷ [])) × ((i : ℕ) → i < length rs → FollowsRecord R.decode C F L (suc (length (rows ++ (row ∷ [])) + i)) (get_or rs i []))
          more = ih row (good_next R F rows r row proper good m) (rw (lines_from, m) at e) hold

          before : Hold F L rows
          before i p q = holds_before R F rows good row L i p q (more.0 i p (omega (arith, rows_grown rows row)))

          f : (l : Line) × (R.decode r ≡ Ok l) × Follows R F rows (suc (length rows)) l row
          f = next_follows R F rows r row m

          at : (i : ℕ) → i < suc (length rs) → FollowsRecord R.decode C F L (suc (length rows + i)) (get_or (r ∷ rs) i [])
          at zero l = subst (λ (k : ℕ). FollowsRecord R.decode C F L k r) (omega arith)
              (f.0, f.1, follows_named R C decides F proper L rows good before f.0 row f.2 (more.0 (suc (length rows)) (omega arith) (omega (arith, rows_grown rows row))))
          at (suc i) l = subst (λ (k : ℕ). FollowsRecord R.decode C F L k (get_or rs i [])) (omega (arith, rows_grown rows row)) (more.1 i (omega arith))

  -- lines that follow from their records pass, to rows that hold them
  named_passed : (rows : List Row) (rs : List (List ℕ)) → Good R F rows → Hold F L rows
      → ((i : ℕ) → i < length rs → FollowsRecord R.decode C F L (suc (length rows + i)) (get_or rs i []))
      → (end : List Row) × (lines_from R F rows rs ≡ passed end) × Hold F L end
  unfolding lines_from
  named_passed rows [] good hold follow = (rows, refl, hold)
  named_passed rows (r ∷ rs) good hold follow = by (follow 0 (omega arith)) (λ row. named_passed (rows ++ (row ∷ [])) rs)
    where
      by : FollowsRecord R.decode C F L (suc (length rows + 0)) r
          → ((row : Row) → Good R F (rows ++ (row ∷ [])) → Hold F L (rows ++ (row ∷ []))
          → ((i : ℕ) → i < length rs → FollowsRecord R.decode C F L (suc (length (rows ++ (row ∷ [])) + i)) (get_or rs i []))
          → (end : List Row) × (lines_from R F (rows ++ (row ∷ [])) rs ≡ passed end) × Hold F L end)
          → (end : List Row) × (lines_from R F rows (r ∷ rs) ≡ passed end) × Hold F L end
      by (l, d, named) ih = (more.0, rw (lines_from, m) more.1, more.2)
        where
          f : (row : Row) × Follows R F rows (suc (length rows)) l row × HoldsLine F L (rows ++ (row ∷ [])) (suc (length rows))
          f = named_follows R C decides F proper L rows good hold l (subst (λ (k : ℕ). Named C F L k l) (omega arith) named)

          m : next_line R F rows r ≡ made f.0
          m = follows_next R F rows r f.0 l d f.1

          more : (end : List Row) × (lines_from R F (rows ++ (f.0 ∷ [])) rs ≡ passed end) × Hold F L end
          more = ih f.0 (good_next R F rows r f.0 proper good m) (hold_more R C decides F proper L rows good hold f.0 f.2)
              (λ i p. subst (λ (k : ℕ). FollowsRecord R.decode C F L k (get_or rs i [])) (omega (arith, rows_grown rows f.0)) (follow (suc i) (omega arith)))

  -- lines follow from their records exactly where all pass, and the rows made hold them
  pub follow_exact : (rs : List (List ℕ)) → Follow R.decode C F L rs ↔ ((rows : List Row) × (all_lines R F rs ≡ passed rows) × Hold F L rows)
  unfolding all_lines
  follow_exact rs = (
    λ follow. named_passed [] rs none (λ i p q. absurd (omega arith)) (λ i l. subst (λ (k : ℕ). FollowsRecord R.decode C F L k (get_or rs i [])) (omega arith) (follow i l)),
    λ (rows, e, hold). λ i l. subst (λ (k : ℕ). FollowsRecord R.decode C F L k (get_or rs i [])) (omega arith) ((passed_named [] rs rows none e hold).1 i l),
  )
    where
      none : Good R F []
      none i p q = absurd (omega arith)
