-- The promise of checking, as its caller reads it: an answer 0 means that the formula is false. And that the promise is not empty: G, and 004's Example 16.
use Rattle.std.specs.Prelude.{◌≡◌, refl, Bool, true, false, List, [], ◌∷◌, ℕ, ◌≤◌, ltb, length}
use Rattle.std.proofs.Common.{sym, ◌∙◌, ap, arith}
use Rattle.rules.specs.declared.Line.{Line}
use Rattle.rules.specs.declared.Line.TheVariants as L
use Rattle.rules.specs.declared.Value.TheVariants.{Star, One, Zero}
use Rattle.rules.specs.declared.Node.TheVariants.{None, Leaf, Branch}
use Rattle.rules.specs.definitions.Limits.{text_most}
use Rattle.rules.specs.definitions.Formula.{Bound, Clause, Formula, False}
use Rattle.rules.specs.definitions.Formula.Quant.{exists, forall}
use Rattle.rules.specs.definitions.Reading.{read}
use Rattle.rules.specs.definitions.Reading.Reading.{formula}
use Rattle.rules.specs.definitions.Lines.{Entry, Row, strict}
use Rattle.rules.specs.definitions.Checking.{Checked, checked}
use Rattle.rules.specs.definitions.Checking.Checked.{rejected, accepted}
use Rattle.rules.specs.definitions.Services.{Lent, Answer, check_answer, refused_early, short_tables, checking}
use Rattle.theory.specs.laws.Listed.{check_listed}
use Rattle.theory.specs.theorems.Countermodel.{strict_alike, accepted_false}
use Rattle.rules.specs.definitions.Bytes.{text, hex}
use Rattle.rules.specs.cases.Worked.{checks, G, proof_G}
use Rattle.rules.specs.cases.Apart.{example_16, proof_16}
use Rattle.rules.specs.statements.Answered.{Answered}

one≢zero : {n : ℕ} → 1 ≤ n → n ≡ 0 → ⊥
one≢zero h e = omega arith

pub answered_zero : (text proof : List ℕ) (T : Lent) → (checking text proof T).reply.number ≡ 0 → Answered text proof T
unfolding checking
answered_zero text proof T = by (short_tables T) (ltb text_most (length text)) refl refl
  where
    now : (s l : Bool) → Answer
    now s l = elim s [ true ↦ refused_early 2 | false ↦ elim l [ true ↦ refused_early 1 | false ↦ check_answer (checked text proof) ] ]

    ended : (c : Checked) → checked text proof ≡ c → short_tables T ≡ false → checking text proof T ≡ check_answer c → (check_answer c).reply.number ≡ 0 → Answered text proof T
    ended (rejected n at v) e s f z = absurd (one≢zero (omega (arith, check_listed text proof n at v e)) z)
    ended (accepted F rows) e s f z = record { formula_is = F; rows = rows; accepts = e; long = s; answer = f }

    by : (s l : Bool) → short_tables T ≡ s → ltb text_most (length text) ≡ l → (checking text proof T).reply.number ≡ 0 → Answered text proof T
    by true l e f z = absurd (one≢zero (omega arith) (sym (ap (λ (b : Bool). (now b (ltb text_most (length text))).reply.number) e) ∙ z))
    by false true e f z = absurd (one≢zero (omega arith) (sym (ap (λ (b : Bool). (now b (ltb text_most (length text))).reply.number) e ∙ ap (λ (b : Bool). (now false b).reply.number) f) ∙ z))
    by false false e f z =
        let same : checking text proof T ≡ check_answer (checked text proof) =
        ap (λ (b : Bool). now b (ltb text_most (length text))) e ∙ ap (λ (b : Bool). now false b) f in
        ended (checked text proof) refl e same (sym (ap (λ (a : Answer). a.reply.number) same) ∙ z)

-- demand 3's last sentence, from the answer: the text reads to a formula, and that formula is false
pub answered_false : (text proof : List ℕ) (T : Lent) → (checking text proof T).reply.number ≡ 0 → (F : Formula) × (read text ≡ formula F) × False F
answered_false text proof T z =
    let a = answered_zero text proof T z in
    let f = accepted_false strict strict_alike text proof a.formula_is a.rows a.accepts in
    (a.formula_is, f.0, f.1)

-- ---- instances
abbrev any : ℕ → Bound
any v = record { kind = exists; var = v }

abbrev every : ℕ → Bound
every v = record { kind = forall; var = v }

abbrev of_words : ℕ → ℕ → Clause
of_words p n = record { plain = p ∷ []; negated = n ∷ [] }

abbrev row : Line → ℕ → ℕ → Entry → Row
row l p n e = record { line = l; clause = of_words p n; entries = e ∷ [] }

abbrev resolve : ℕ → ℕ → ℕ → ℕ → Line
resolve a b x m = L.Resolve (record { a = a; b = b; pivot = x; merge = m })

abbrev leaf : ℕ → Rattle.rules.specs.declared.Value.Value → Entry
leaf i v = record { node = Leaf v; root = i }

abbrev pub formula_G : Formula
formula_G = record { variables = 3; prefix = any 1 ∷ every 2 ∷ any 3 ∷ []; matrix = of_words 7 0 ∷ of_words 4 3 ∷ of_words 0 4 ∷ [] }

abbrev pub rows_G : List Row
rows_G =
    row (L.Axiom 1) 5 0 (leaf 1 Zero)
    ∷ row (L.Axiom 2) 4 1 (leaf 2 One)
    ∷ row (L.Axiom 3) 0 4 (leaf 3 Star)
    ∷ row (resolve 1 2 1 1) 4 0 (record { node = Branch 1 1 2; root = 4 })
    ∷ row (resolve 4 3 3 0) 0 0 (record { node = None; root = 4 })
    ∷ []

pub accepts_G : checked G proof_G ≡ accepted formula_G rows_G
unfolding checks G proof_G
accepts_G = refl

-- G is false
pub G_false : False formula_G
G_false = (accepted_false strict strict_alike G proof_G formula_G rows_G accepts_G).1

abbrev pub formula_16 : Formula
formula_16 = record {
  variables = 3;
  prefix = any 1 ∷ every 2 ∷ any 3 ∷ [];
  matrix = of_words 7 0 ∷ of_words 4 3 ∷ of_words 3 4 ∷ of_words 0 7 ∷ [];
}

abbrev pub rows_16 : List Row
rows_16 =
    row (L.Axiom 1) 5 0 (leaf 1 Zero)
    ∷ row (L.Axiom 2) 4 1 (leaf 2 One)
    ∷ row (resolve 1 2 1 1) 4 0 (record { node = Branch 1 1 2; root = 3 })
    ∷ row (L.Axiom 3) 1 4 (leaf 4 Zero)
    ∷ row (L.Axiom 4) 0 5 (leaf 5 One)
    ∷ row (resolve 4 5 1 1) 0 4 (record { node = Branch 1 4 5; root = 6 })
    ∷ row (resolve 3 6 3 0) 0 0 (record { node = None; root = 3 })
    ∷ []

pub accepts_16 : checked (text example_16) (hex proof_16) ≡ accepted formula_16 rows_16
unfolding checks
accepts_16 = refl

-- Example 16's formula is false
pub example_16_false : False formula_16
example_16_false = (accepted_false strict strict_alike (text example_16) (hex proof_16) formula_16 rows_16 accepts_16).1
