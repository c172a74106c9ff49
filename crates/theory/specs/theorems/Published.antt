-- Demand 2 with the published definition on one side: lines are a refutation as published that keeps the house rule exactly where some
-- proof, of bytes, proves them; and it is accepted.
use Rattle.std.specs.Prelude.{◌≡◌, Bool, true, false, ◌||◌, ◌⊎◌, ◌↔◌, ℕ, zero, suc, ◌-◌, ◌^◌, ◌≤◌, ◌<◌, eqb, length, get_or}
use Rattle.std.proofs.Math.Path.{refl, subst}
use Rattle.std.proofs.Common.{sym, ap, ◌∙◌, true≢false, inl, inr, arith, eqb-true}
use Rattle.std.proofs.lemmas.Bool.{false≢true, eqb-false}
use mathlib.Core.List.Memᴰ
use mathlib.Core.List.{List, [], ◌∷◌, map, Memᴰ}
use Rattle.std.specs.Int.Bits.{bit_or}
use Rattle.std.proofs.lemmas.List.{length-map}
use Rattle.rules.specs.declared.Line.{Line}
use Rattle.rules.specs.declared.Line.TheVariants.{Axiom, Resolve}
use Rattle.rules.specs.definitions.Limits.{lines_most}
use Rattle.rules.specs.definitions.Bits.{bit}
use Rattle.theory.specs.laws.Bits.{bit_of_or, bit_zero, bit_one, members_below}
use Rattle.rules.specs.definitions.Formula.{Clause, Formula, universals, no_literal}
use Rattle.theory.specs.laws.Formula.{bound_by_place, universal_bound}
use Rattle.rules.specs.definitions.Formula.Quant.{exists}
use Rattle.rules.specs.statements.Proper.{Proper}
use Rattle.rules.specs.definitions.Reading.{read}
use Rattle.rules.specs.definitions.Reading.Reading.{formula}
use Rattle.theory.specs.laws.Reading.{read_proper}
use Rattle.theory.specs.laws.Lines.{clause_in}
use Rattle.rules.specs.definitions.Faults.{first_of}
use Rattle.rules.specs.definitions.File.{merge_proof, decoded, encoded, file_of, announced}
use Rattle.rules.specs.statements.Proves.{AllBytes, Decides, Proves, OneWay}
use Rattle.theory.specs.laws.File.{no_bytes, Fits, decoded_encoded, announced_file, records_file, head_file, bytes_file}
use Rattle.rules.specs.definitions.Maps.{Column}
use Rattle.rules.specs.definitions.Lines.{Row, clause_number, in_set}
use Rattle.rules.specs.definitions.Checking.{Manner, refuting, rules_of, checked_by}
use Rattle.rules.specs.definitions.Checking.Checked.{accepted}
use Rattle.rules.specs.definitions.Paper.{single, falsifying_literal, Select, Merged, ProofLine, ExistentialPart, ByAxiom, ByResolution, Calculus, Empty, Refutation}
use Rattle.rules.specs.definitions.Named.{universal_at, Named, Follow}
use Rattle.rules.specs.statements.Held.{Hold}
use Rattle.theory.specs.theorems.Exact.{records_length, accepted_held, exact, proves_refutation}

-- ---- a merge set for a choice at each of n universals
pub record Chosen (P Q : ℕ → Type 0) (n : ℕ) : Type 0 where
  pub set : ℕ
  pub below : (j : ℕ) → in_set set j ≡ true → j < n
  pub taken : (j : ℕ) → j < n → in_set set j ≡ true → P j
  pub left : (j : ℕ) → j < n → in_set set j ≡ false → Q j

module _ (P Q : ℕ → Type 0) (n : ℕ) (c : Chosen P Q n) where
  -- not the next
  skipped : Q n → Chosen P Q (suc n)
  skipped q = record {
    set = c.set;
    below = λ j e. omega (arith, c.below j e);
    taken = λ j l e. c.taken j (c.below j e) e;
    left = λ j l e. by j l e (eqb j n) refl;
  }
    where
      by : (j : ℕ) → j < suc n → in_set c.set j ≡ false → (b : Bool) → eqb j n ≡ b → Q j
      by j l e true o = subst Q (sym (eqb-true j n o)) q
      by j l e false o = let d = eqb-false j n o in c.left j (omega (arith, d)) e

  -- the next too
  abbrev more : ℕ
  more = bit_or c.set (2 ^ n)

  told : (j : ℕ) → bit more j ≡ (bit c.set j || eqb j n)
  told j = bit_of_or c.set (2 ^ n) j ∙ ap (λ (b : Bool). bit c.set j || b) (bit_one n j)

  joined : P n → Chosen P Q (suc n)
  joined p = record {
    set = more;
    below = λ j e. low j (bit c.set j) refl (sym (told j) ∙ e);
    taken = λ j l e. by j (eqb j n) refl (bit c.set j) refl (sym (told j) ∙ e);
    left = λ j l e. un j l (eqb j n) refl (bit c.set j) refl (sym (told j) ∙ e);
  }
    where
      low : (j : ℕ) (b : Bool) → bit c.set j ≡ b → (b || eqb j n) ≡ true → j < suc n
      low j true o e = omega (arith, c.below j o)
      low j false o e = let d = eqb-true j n e in omega (arith, d)

      by : (j : ℕ) (a : Bool) → eqb j n ≡ a → (b : Bool) → bit c.set j ≡ b → (b || a) ≡ true → P j
      by j true f b o e = subst P (sym (eqb-true j n f)) p
      by j false f true o e = c.taken j (c.below j o) o
      by j false f false o e = absurd (false≢true e)

      un : (j : ℕ) → j < suc n → (a : Bool) → eqb j n ≡ a → (b : Bool) → bit c.set j ≡ b → (b || a) ≡ false → Q j
      un j l true f true o e = absurd (true≢false e)
      un j l true f false o e = absurd (true≢false e)
      un j l false f true o e = absurd (true≢false e)
      un j l false f false o e = let d = eqb-false j n f in c.left j (omega (arith, d)) o

chosen : (P Q : ℕ → Type 0) (n : ℕ) → ((j : ℕ) → j < n → Q j ⊎ P j) → Chosen P Q n
chosen P Q zero f = record {
  set = 0;
  below = λ j e. absurd (false≢true (sym (bit_zero j) ∙ e));
  taken = λ j l e. absurd (omega arith);
  left = λ j l e. absurd (omega arith);
}
chosen P Q (suc n) f = by (f n (omega arith)) (chosen P Q n (λ j l. f j (omega arith)))
  where
    by : Q n ⊎ P n → Chosen P Q n → Chosen P Q (suc n)
    by (inl q) c = skipped P Q n c q
    by (inr p) c = joined P Q n c p

-- ---- a clause of the matrix has a number
member_at : {A : Type 0} (l : List A) (a d : A) → Memᴰ a l → (c : ℕ) × (c < length l) × (get_or l c d ≡ a)
member_at [] a d m = absurd (Memᴰ.not-nil m)
member_at (x ∷ l) a d m = by (Memᴰ.cases_cons m) (member_at l a d)
  where
    by : (a ≡ x) ⊎ Memᴰ a l → (Memᴰ a l → (c : ℕ) × (c < length l) × (get_or l c d ≡ a)) → (c : ℕ) × (c < suc (length l)) × (get_or (x ∷ l) c d ≡ a)
    by (inl e) rest = (0, omega arith, sym e)
    by (inr m') rest = let r = rest m' in (suc r.0, omega (arith, r.1), r.2)

-- ---- a line that follows as published is one that some record names
module _ (C : Calculus) (F : Formula) (L : ℕ → ProofLine) (i : ℕ) where
  axiom_named : ByAxiom F L i → (l : Line) × Named C F L i l
  axiom_named h = by (member_at F.matrix h.source no_literal h.in_matrix)
    where
      by : (c : ℕ) × (c < length F.matrix) × (get_or F.matrix c no_literal ≡ h.source) → (l : Line) × Named C F L i l
      by (c, below, e) =
          let n : suc c - 1 ≡ c = omega arith in
          let same : h.source ≡ clause_number F (suc c) = sym e ∙ ap (λ (k : ℕ). get_or F.matrix k no_literal) (sym n) in (
            Axiom (suc c),
            record {
              number = (omega arith, omega (arith, below));
              clause = subst (ExistentialPart F (L i).clause) same h.clause;
              maps = λ j l. h.maps (universal_at F j) (universal_bound F.prefix j l) ∙ ap (λ (D : Clause). single i (falsifying_literal D (universal_at F j))) same;
            },
          )

  module _ (h : ByResolution C F L i) where
    abbrev merges : ℕ → Type 0
    merges j = Merged C h.x (universal_at F j) ((L h.a).map (universal_at F j)) ((L h.b).map (universal_at F j)) i ((L i).map (universal_at F j))

    abbrev selects : ℕ → Type 0
    selects j = Select C.Same ((L h.a).map (universal_at F j)) ((L h.b).map (universal_at F j)) ((L i).map (universal_at F j))

    choice : Chosen merges selects (length (universals F.prefix))
    choice = chosen merges selects (length (universals F.prefix)) (λ j l. h.maps (universal_at F j) (universal_bound F.prefix j l))

    resolution_named : OneWay L i → (l : Line) × Named C F L i l
    resolution_named house = (
      Resolve (record { a = h.a; b = h.b; pivot = h.x; merge = choice.set }),
      record {
        a_earlier = h.a_earlier;
        b_earlier = h.b_earlier;
        pivot = h.pivot;
        in_a = h.in_a;
        in_b = h.in_b;
        present = choice.below;
        clause = h.clause;
        house = house;
        merged = choice.taken;
        selected = choice.left;
      },
    )

  pub published_named : OneWay L i → ByAxiom F L i ⊎ ByResolution C F L i → (l : Line) × Named C F L i l
  published_named house (inl h) = axiom_named h
  published_named house (inr h) = resolution_named h house

-- ---- its record's numbers fit their bytes
named_fits : (C : Calculus) (F : Formula) → Proper F → (L : ℕ → ProofLine) (i : ℕ) → i ≤ lines_most → (l : Line) → Named C F L i l → Fits l
named_fits C F proper L i few (Axiom c) h = omega (arith, h.number.1, proper.clauses)
named_fits C F proper L i few (Resolve r) h =
    let p = bound_by_place exists F.prefix r.pivot h.pivot in
    let v = proper.in_range p.0 p.1 in (
      omega (arith, h.a_earlier.1),
      omega (arith, h.b_earlier.1),
      omega (arith, v.1, p.3, proper.variables),
      members_below 16 r.merge (λ j e. omega (arith, h.present j e, proper.universals)),
    )

-- ---- the lines of a derivation, in order
abbrev first : Line
first = Axiom 1

listed : (P : ℕ → Line → Type 0) (k : ℕ) → ((i : ℕ) → i < k → (l : Line) × P i l) → (ls : List Line) × (length ls ≡ k) × ((i : ℕ) → i < k → P i (get_or ls i first))
listed P zero f = ([], refl, λ i h. absurd (omega arith))
listed P (suc k) f = by (f 0 (omega arith)) (listed (λ i. P (suc i)) k (λ i h. f (suc i) (omega arith)))
  where
    by : (l : Line) × P 0 l → (ls : List Line) × (length ls ≡ k) × ((i : ℕ) → i < k → P (suc i) (get_or ls i first))
        → (ls : List Line) × (length ls ≡ suc k) × ((i : ℕ) → i < suc k → P i (get_or ls i first))
    by (l, p) (ls, e, ps) = (l ∷ ls, ap suc e, at)
      where
        at : (i : ℕ) → i < suc k → P i (get_or (l ∷ ls) i first)
        at zero h = p
        at (suc i) h = ps i (omega arith)

encoded_at : (ls : List Line) (i : ℕ) → i < length ls → get_or (map encoded ls) i [] ≡ encoded (get_or ls i first)
encoded_at [] i h = absurd (omega arith)
encoded_at (l ∷ ls) zero h = refl
encoded_at (l ∷ ls) (suc i) h = encoded_at ls i (omega arith)

module _ (third_ground : Column → ℕ → ℕ → Bool) (C : Calculus) (text : List ℕ) (F : Formula) (given : read text ≡ formula F) (L : ℕ → ProofLine) (k : ℕ) (few : k ≤ lines_most)
    (refutes : Refutation C F L k) (house : (i : ℕ) → 1 ≤ i → i ≤ k → OneWay L i) where
  lines : (ls : List Line) × (length ls ≡ k) × ((i : ℕ) → i < k → Named C F L (suc i) (get_or ls i first))
  lines = listed (λ i. Named C F L (suc i)) k (λ i h. published_named C F L (suc i) (house (suc i) (omega arith) (omega (arith, h))) (refutes.1 (suc i) (omega arith) (omega (arith, h))))

  -- the file of those lines
  abbrev file : List ℕ
  file = file_of merge_proof.mark 1 [] lines.0

  follows : Follow decoded C F L (map encoded lines.0)
  follows i h =
      let l : i < length lines.0 = omega (arith, h, length-map lines.0 encoded) in
      (get_or lines.0 i first, ap decoded (encoded_at lines.0 i l) ∙ decoded_encoded (get_or lines.0 i first), lines.2 i (omega (arith, l, lines.1)))

  announces : announced file ≡ k
  announces = announced_file 77 82 80 1 merge_proof.known merge_proof.version [] lines.0 F refl ∙ lines.1

  proves : Proves (refuting third_ground merge_proof) C text file F L
  unfolding first_of
  proves = record {
    derives = record {
      text_read = given;
      head_right = head_file 77 82 80 1 merge_proof.known merge_proof.version [] lines.0 F refl refl refl (omega (arith, lines.1, refutes.0)) (omega (arith, lines.1, few));
      follow = subst (Follow decoded C F L) (sym (records_file 77 82 80 1 merge_proof.known merge_proof.version [] lines.0 F refl)) follows;
    };
    empty = subst (λ (n : ℕ). Empty (L n).clause) (sym announces) refutes.2;
  }

  bytes : AllBytes file
  bytes = bytes_file 77 82 80 1 merge_proof.known merge_proof.version [] lines.0 F refl
      (omega arith) (omega arith) (omega arith) (omega arith) no_bytes (omega (arith, lines.1, few))
      first (λ i h. named_fits C F (read_proper text F given) L (suc i) (omega (arith, h, lines.1, few)) (get_or lines.0 i first) (lines.2 i (omega (arith, h, lines.1))))

-- a line that a record names keeps the house rule
named_one_way : (C : Calculus) (F : Formula) → Proper F → (L : ℕ → ProofLine) (i : ℕ) (l : Line) → Named C F L i l → OneWay L i
named_one_way C F proper L i (Axiom c) h =
    λ v p n. proper.one_way (clause_number F c) (clause_in F c h.number.0 h.number.1) v (h.clause.plain v p).0 (h.clause.negated v n).0
named_one_way C F proper L i (Resolve r) h = h.house

-- ---- for a text that reads to F, and at most 1,024 lines
module _ (third_ground : Column → ℕ → ℕ → Bool) (text : List ℕ) (F : Formula) (C : Calculus) (decides : (proof : List ℕ) → Decides (rules_of (refuting third_ground merge_proof) F proof) C)
    (given : read text ≡ formula F) (L : ℕ → ProofLine) (k : ℕ) (few : k ≤ lines_most) where
  abbrev m : Manner
  m = refuting third_ground merge_proof

  pub published_exact : (Refutation C F L k × ((i : ℕ) → 1 ≤ i → i ≤ k → OneWay L i))
      ↔ ((proof : List ℕ) × AllBytes proof × (announced proof ≡ k) × Proves m C text proof F L)
  published_exact = (
    λ (refutes, house). (
      file third_ground C text F given L k few refutes house,
      bytes third_ground C text F given L k few refutes house,
      announces third_ground C text F given L k few refutes house,
      proves third_ground C text F given L k few refutes house,
    ),
    λ (proof, b, e, p). (
      subst (Refutation C F L) e (proves_refutation third_ground merge_proof text proof F C (decides proof) L p),
      λ i lo hi. by proof p i lo (omega (arith, e, hi)),
    ),
  )
    where
      by : (proof : List ℕ) → Proves m C text proof F L → (i : ℕ) → 1 ≤ i → i ≤ announced proof → OneWay L i
      by proof p zero lo hi = absurd (omega arith)
      by proof p (suc i) lo hi =
          let f = p.derives.follow i (omega (arith, hi, records_length merge_proof F proof)) in
          named_one_way C F (read_proper text F given) L (suc i) f.0 f.2

  -- such a proof is accepted, and its rows hold the refutation's lines
  pub published_accepted : Refutation C F L k → ((i : ℕ) → 1 ≤ i → i ≤ k → OneWay L i)
      → (proof : List ℕ) × AllBytes proof × (announced proof ≡ k) × ((rows : List Row) × (checked_by m text proof ≡ accepted F rows) × Hold F L rows)
  published_accepted refutes house =
      let w = published_exact.0 (refutes, house) in
      let a = (exact third_ground merge_proof text w.0 F C (decides w.0)).1 (L, w.3) in
      (w.0, w.1, w.2, (a.0, a.1, (accepted_held third_ground merge_proof text w.0 F C (decides w.0) a.0 a.1 L).0 w.3))
