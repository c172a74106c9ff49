-- Cases of our own, so that each field of each word and each branch of each definition is told apart by one.
use Rattle.std.specs.Prelude.{◌≡◌, refl, Bool, true, ◌&&◌, List, [], ◌∷◌, ◌++◌, ℕ, eqb, replicate}
use Prim.Native.String.{String}
use Rattle.rules.specs.declared.Played.{Played}
use Rattle.rules.specs.definitions.Bits.{bit}
use Rattle.rules.specs.definitions.Sets.{has, with}
use Rattle.rules.specs.definitions.Faults.{Found}
use Rattle.rules.specs.definitions.Faults.Found.{passes, fails}
use Rattle.rules.specs.definitions.File.{merge_proof, head_fault}
use Rattle.rules.specs.definitions.Bytes.{text, hex}
use Rattle.rules.specs.definitions.Services.{refusal, reading, checking, playing}
use Rattle.rules.specs.cases.Worked.{prints, checks, leaves, reads, read_prefix, read_clauses, plays, G, row_of, alone}

-- ---- texts: the number and the offset of the reply
pub record TextCase : Type 0 where
  pub given : String
  pub number : ℕ
  pub place : ℕ

abbrev pub case : String → ℕ → ℕ → TextCase
case s n at = record { given = s; number = n; place = at }

unfoldable pub texts : List TextCase
texts =
    case "" 3 0
    ∷ case "c" 3 1
    ∷ case "c only a comment" 3 16
    ∷ case "c x\np cnf 0 x" 3 12
    ∷ case "cnf\n\tc p\r\np cnf 0 0 1" 10 20
    ∷ case "q" 3 0
    ∷ case "pp" 3 0
    ∷ case "p" 3 1
    ∷ case "p cn" 3 2
    ∷ case "p cnff" 3 2
    ∷ case "p cnf" 3 5
    ∷ case "p c" 3 2
    ∷ case "p cnf 1" 3 7
    ∷ case "p cnf x 0" 3 6
    ∷ case "p cnf -1 0" 3 6
    ∷ case "p cnf 65 0" 4 6
    ∷ case "p cnf 99999999999 0" 4 6
    ∷ case "p cnf -99999999999 0" 3 6
    ∷ case "p cnf 01 0" 3 6
    ∷ case "p cnf -0 0" 3 6
    ∷ case "p cnf 0 257" 4 8
    ∷ case "p cnf 0 256" 10 11
    ∷ case "p cnf 0 -1" 3 8
    ∷ case "p cnf 0 1x" 3 8
    ∷ case "p cnf 3 3" 10 9
    ∷ case "p cnf 64 0" 0 0
    ∷ case "p cnf 0 0" 0 0
    ∷ case "p cnf 10 0 e 10 0" 0 0
    ∷ case "p cnf 2 0 e 0" 3 12
    ∷ case "p cnf 2 0 e" 3 11
    ∷ case "p cnf 2 0 e 1" 3 13
    ∷ case "p cnf 2 0 e -1 0" 5 12
    ∷ case "p cnf 2 0 e 3 0" 5 12
    ∷ case "p cnf 2 0 e 2 0" 0 0
    ∷ case "p cnf 2 0 e 1 2 1 0" 6 16
    ∷ case "p cnf 2 0 e 1 0 a 1 0" 6 18
    ∷ case "p cnf 2 0 e 1 x" 3 14
    ∷ case "p cnf 2 0 e 1 a" 3 14
    ∷ case "p cnf 2 0 e 1 -0" 3 14
    ∷ case "p cnf 2 0 x" 10 10
    ∷ case "p cnf 2 0 -0" 10 10
    ∷ case "p cnf 2 0 e 1 0 c" 10 16
    ∷ case "p cnf 2 0 e 1 0 a 2 0" 0 0
    ∷ case "p cnf 2 0 e 1 0 e 2 0" 0 0
    ∷ case "p cnf 2 0 ea 1 0" 10 10
    ∷ case "p cnf 16 0 a 1 2 3 4 5 6 7 8 9 10 11 12 13 14 15 16 0" 0 0
    ∷ case "p cnf 17 0 a 1 2 3 4 5 6 7 8 9 10 11 12 13 14 15 16 17 0" 7 52
    ∷ case "p cnf 17 0 a 1 2 3 4 5 6 7 8 9 10 11 12 13 14 15 16 3 0" 6 52
    ∷ case "p cnf 17 0 a 1 2 3 4 5 6 7 8 9 10 11 12 13 14 15 16 18 0" 5 52
    ∷ case "p cnf 17 0 a 1 2 3 4 5 6 7 8 9 10 11 12 13 14 15 16 0 e 17 0" 0 0
    ∷ case "p cnf 2 1 e 1 0 2 0" 8 16
    ∷ case "p cnf 2 1 e 1 0 -2 0" 8 16
    ∷ case "p cnf 2 1 e 1 0 3 0" 5 16
    ∷ case "p cnf 2 1 e 1 0 -3 0" 5 16
    ∷ case "p cnf 1 1 e 1 0 1 -1 0" 9 18
    ∷ case "p cnf 1 1 e 1 0 -1 1 0" 9 19
    ∷ case "p cnf 1 1 e 1 0 1 1 0" 0 0
    ∷ case "p cnf 1 1 e 1 0 -1 -1 0" 0 0
    ∷ case "p cnf 1 1 e 1 0 1" 3 17
    ∷ case "p cnf 1 1 e 1 0 x 0" 3 16
    ∷ case "p cnf 1 2 e 1 0 1 0" 10 19
    ∷ case "p cnf 1 1 e 1 0 1 0 0" 10 20
    ∷ case "p cnf 1 1 e 1 0 1 0 x" 10 20
    ∷ case "p cnf 1 2 e 1 0 1 0 e" 3 20
    ∷ case "p cnf 1 2 e 1 0 1 a" 3 18
    ∷ case "p cnf 1 1 e 1 0 -0" 3 16
    ∷ case "p cnf 1 1 e 1 0 -9999999 0" 5 16
    ∷ case "p cnf 1 1 e 1 0 01 0" 3 16
    ∷ case "p cnf 1 1 e 1 0" 10 15
    ∷ case "p cnf 0 1 0" 0 0
    ∷ case "p cnf 0 1 1 0" 5 10
    ∷ case "p cnf 0 2 0 0" 0 0
    ∷ case "p cnf 1 1 0 e" 10 12
    ∷ case "c a\n\tcb\np\tcnf\r\n0\n0\n" 0 0
    ∷ case "c\rp cnf 0 0" 3 11
    ∷ case "c\nq" 3 2
    ∷ case "p c\ncnf 0 0" 3 2
    ∷ case "p cnf 00 0" 3 6
    ∷ case "p cnf - 0" 3 6
    ∷ case "p cnf 1/ 0" 3 6
    ∷ case "p cnf 1: 0" 3 6
    ∷ case "p cnf : 0" 3 6
    ∷ case "p cnf 4294967297 0" 4 6
    ∷ case "p cnf 0 190" 10 11
    ∷ case "p cnf 64 256" 10 12
    ∷ case "p cnf 64 257" 4 9
    ∷ case "p cnf 1 0 e x" 3 12
    ∷ case "p cnf 1 0 e 1 0 a 0" 3 18
    ∷ case "p cnf 1 1 e 1 0 1 0 a 1 0" 10 20
    ∷ case "p cnf 1 2 e 1 0 1 0 e 1 0" 3 20
    ∷ case "p cnf 1 0 a 1 0 x" 10 16
    ∷ case " p cnf 0 0" 0 0
    ∷ case "A\np cnf 0 0" 3 0
    ∷ case "c\tq\np cnf 0 0" 0 0
    ∷ case "p cnf 1 1 e 1 0 +1 0" 3 16
    ∷ []

-- reading answers so
abbrev pub read_so : TextCase → Bool
read_so c = let r = (reads (text c.given)).reply in eqb r.number c.number && eqb r.place c.place

unfoldable pub all_read : List TextCase → Bool
unfolding reads
all_read [] = true
all_read (c ∷ cs) = read_so c && all_read cs

-- these bytes separate no tokens: each between p and cnf makes one token of them
unfoldable pub no_separators : List ℕ → Bool
unfolding reads
no_separators [] = true
no_separators (b ∷ bs) = let r = (reads (112 ∷ b ∷ text "cnf 0 0")).reply in (eqb r.number 3 && eqb r.place 0) && no_separators bs

-- ---- proofs: the number, the line and the variable of checking's reply
pub record ProofCase : Type 0 where
  pub given : String
  pub proof : String
  pub number : ℕ
  pub place : ℕ
  pub variable : ℕ

abbrev pub with_proof : String → String → ℕ → ℕ → ℕ → ProofCase
with_proof s p n at v = record { given = s; proof = p; number = n; place = at; variable = v }

unfoldable pub proofs : List ProofCase
proofs =
    with_proof "p cnf 3 3 e 1 0 a 2 0 e 3 0 1 2 3 0 -1 -2 3 0 -3 0" "" 11 0 0
    ∷ with_proof "p cnf 3 3 e 1 0 a 2 0 e 3 0 1 2 3 0 -1 -2 3 0 -3 0" "4D 52 50 00 00 00 00" 11 0 0
    ∷ with_proof "p cnf 3 3 e 1 0 a 2 0 e 3 0 1 2 3 0 -1 -2 3 0 -3 0" "4D 52 50 01 00 05" 11 0 0
    ∷ with_proof "p cnf 3 3 e 1 0 a 2 0 e 3 0 1 2 3 0 -1 -2 3 0 -3 0" "4C 52 50 01 00 00 00" 11 0 0
    ∷ with_proof "p cnf 3 3 e 1 0 a 2 0 e 3 0 1 2 3 0 -1 -2 3 0 -3 0" "4D 53 50 01 00 00 00" 11 0 0
    ∷ with_proof "p cnf 3 3 e 1 0 a 2 0 e 3 0 1 2 3 0 -1 -2 3 0 -3 0" "4D 52 51 01 00 00 00" 11 0 0
    ∷ with_proof "p cnf 3 3 e 1 0 a 2 0 e 3 0 1 2 3 0 -1 -2 3 0 -3 0" "4D 52 50 02 00 00 00" 11 0 0
    ∷ with_proof "p cnf 3 3 e 1 0 a 2 0 e 3 0 1 2 3 0 -1 -2 3 0 -3 0" "4D 52 50 01 01 00 00" 11 0 0
    ∷ with_proof "p cnf 3 3 e 1 0 a 2 0 e 3 0 1 2 3 0 -1 -2 3 0 -3 0" "4D 52 50 01 00 00 00 00" 12 0 0
    ∷ with_proof "p cnf 3 3 e 1 0 a 2 0 e 3 0 1 2 3 0 -1 -2 3 0 -3 0" "4D 52 50 01 00 02 00 01 01 00 00 00 00 00 00" 12 0 0
    ∷ with_proof "p cnf 3 3 e 1 0 a 2 0 e 3 0 1 2 3 0 -1 -2 3 0 -3 0" "4D 52 50 01 00 00 01 01 01 00 00 00 00 00 00" 12 0 0
    ∷ with_proof "p cnf 3 3 e 1 0 a 2 0 e 3 0 1 2 3 0 -1 -2 3 0 -3 0" "4D 52 50 01 00 01 00 01 01 00 00 00 00 00 00 01 02 00 00 00 00 00 00" 12 0 0
    ∷ with_proof "p cnf 1 1 x" "4D 52 50 01 00 02 00 01 01 00 00 00 00 00 00" 3 10 0
    ∷ with_proof "p cnf 3 3 e 1 0 a 2 0 e 3 0 1 2 3 0 -1 -2 3 0 -3 0" "4D 52 50 01 00 01 00 00 01 00 00 00 00 00 00" 21 1 0
    ∷ with_proof "p cnf 3 3 e 1 0 a 2 0 e 3 0 1 2 3 0 -1 -2 3 0 -3 0" "4D 52 50 01 00 01 00 03 01 00 00 00 00 00 00" 21 1 0
    ∷ with_proof "p cnf 3 3 e 1 0 a 2 0 e 3 0 1 2 3 0 -1 -2 3 0 -3 0" "4D 52 50 01 00 02 00 01 01 00 00 00 00 00 00 01 01 00 01 00 00 00 00" 22 2 0
    ∷ with_proof "p cnf 3 3 e 1 0 a 2 0 e 3 0 1 2 3 0 -1 -2 3 0 -3 0" "4D 52 50 01 00 01 00 01 01 00 00 01 00 00 00" 22 1 0
    ∷ with_proof "p cnf 3 3 e 1 0 a 2 0 e 3 0 1 2 3 0 -1 -2 3 0 -3 0" "4D 52 50 01 00 01 00 01 01 00 00 00 01 00 00" 22 1 0
    ∷ with_proof "p cnf 3 3 e 1 0 a 2 0 e 3 0 1 2 3 0 -1 -2 3 0 -3 0" "4D 52 50 01 00 01 00 01 01 00 00 00 00 01 00" 22 1 0
    ∷ with_proof "p cnf 3 3 e 1 0 a 2 0 e 3 0 1 2 3 0 -1 -2 3 0 -3 0" "4D 52 50 01 00 01 00 01 09 00 00 00 00 00 01" 22 1 0
    ∷ with_proof "p cnf 3 3 e 1 0 a 2 0 e 3 0 1 2 3 0 -1 -2 3 0 -3 0" "4D 52 50 01 00 01 00 01 00 00 00 00 00 00 00" 23 1 0
    ∷ with_proof "p cnf 3 3 e 1 0 a 2 0 e 3 0 1 2 3 0 -1 -2 3 0 -3 0" "4D 52 50 01 00 01 00 01 04 00 00 00 00 00 00" 23 1 0
    ∷ with_proof "p cnf 3 3 e 1 0 a 2 0 e 3 0 1 2 3 0 -1 -2 3 0 -3 0" "4D 52 50 01 00 01 00 01 01 01 00 00 00 00 00" 23 1 0
    ∷ with_proof "p cnf 3 3 e 1 0 a 2 0 e 3 0 1 2 3 0 -1 -2 3 0 -3 0" "4D 52 50 01 00 01 00 01 03 00 00 00 00 00 00" 32 1 0
    ∷ with_proof "p cnf 3 3 e 1 0 a 2 0 e 3 0 1 2 3 0 -1 -2 3 0 -3 0" "4D 52 50 01 00 04 00 01 01 00 00 00 00 00 00 01 02 00 00 00 00 00 00 01 03 00 00 00 00 00 00 02 00 00 02 00 01 01 00" 24 4 0
    ∷ with_proof "p cnf 3 3 e 1 0 a 2 0 e 3 0 1 2 3 0 -1 -2 3 0 -3 0" "4D 52 50 01 00 04 00 01 01 00 00 00 00 00 00 01 02 00 00 00 00 00 00 01 03 00 00 00 00 00 00 02 01 00 00 00 01 01 00" 24 4 0
    ∷ with_proof "p cnf 3 3 e 1 0 a 2 0 e 3 0 1 2 3 0 -1 -2 3 0 -3 0" "4D 52 50 01 00 04 00 01 01 00 00 00 00 00 00 01 02 00 00 00 00 00 00 01 03 00 00 00 00 00 00 02 04 00 02 00 01 01 00" 24 4 0
    ∷ with_proof "p cnf 3 3 e 1 0 a 2 0 e 3 0 1 2 3 0 -1 -2 3 0 -3 0" "4D 52 50 01 00 04 00 01 01 00 00 00 00 00 00 01 02 00 00 00 00 00 00 01 03 00 00 00 00 00 00 02 01 00 04 00 01 01 00" 24 4 0
    ∷ with_proof "p cnf 3 3 e 1 0 a 2 0 e 3 0 1 2 3 0 -1 -2 3 0 -3 0" "4D 52 50 01 00 04 00 01 01 00 00 00 00 00 00 01 02 00 00 00 00 00 00 01 03 00 00 00 00 00 00 02 01 01 02 00 01 01 00" 24 4 0
    ∷ with_proof "p cnf 3 3 e 1 0 a 2 0 e 3 0 1 2 3 0 -1 -2 3 0 -3 0" "4D 52 50 01 00 04 00 01 01 00 00 00 00 00 00 01 02 00 00 00 00 00 00 01 03 00 00 00 00 00 00 02 01 00 02 01 01 01 00" 24 4 0
    ∷ with_proof "p cnf 3 3 e 1 0 a 2 0 e 3 0 1 2 3 0 -1 -2 3 0 -3 0" "4D 52 50 01 00 01 00 02 01 00 01 00 01 00 00" 24 1 0
    ∷ with_proof "p cnf 3 3 e 1 0 a 2 0 e 3 0 1 2 3 0 -1 -2 3 0 -3 0" "4D 52 50 01 00 04 00 01 01 00 00 00 00 00 00 01 02 00 00 00 00 00 00 01 03 00 00 00 00 00 00 02 01 00 02 00 00 01 00" 25 4 0
    ∷ with_proof "p cnf 3 3 e 1 0 a 2 0 e 3 0 1 2 3 0 -1 -2 3 0 -3 0" "4D 52 50 01 00 04 00 01 01 00 00 00 00 00 00 01 02 00 00 00 00 00 00 01 03 00 00 00 00 00 00 02 01 00 02 00 02 01 00" 25 4 0
    ∷ with_proof "p cnf 3 3 e 1 0 a 2 0 e 3 0 1 2 3 0 -1 -2 3 0 -3 0" "4D 52 50 01 00 04 00 01 01 00 00 00 00 00 00 01 02 00 00 00 00 00 00 01 03 00 00 00 00 00 00 02 01 00 02 00 04 01 00" 25 4 0
    ∷ with_proof "p cnf 3 3 e 1 0 a 2 0 e 3 0 1 2 3 0 -1 -2 3 0 -3 0" "4D 52 50 01 00 04 00 01 01 00 00 00 00 00 00 01 02 00 00 00 00 00 00 01 03 00 00 00 00 00 00 02 01 00 02 00 FF 01 00" 25 4 0
    ∷ with_proof "p cnf 3 1 e 1 0 1 0" "4D 52 50 01 00 02 00 01 01 00 00 00 00 00 00 02 01 00 01 00 03 00 00" 25 2 0
    ∷ with_proof "p cnf 3 3 e 1 0 a 2 0 e 3 0 1 2 3 0 -1 -2 3 0 -3 0" "4D 52 50 01 00 04 00 01 01 00 00 00 00 00 00 01 02 00 00 00 00 00 00 01 03 00 00 00 00 00 00 02 03 00 02 00 03 00 00" 26 4 0
    ∷ with_proof "p cnf 3 3 e 1 0 a 2 0 e 3 0 1 2 3 0 -1 -2 3 0 -3 0" "4D 52 50 01 00 04 00 01 01 00 00 00 00 00 00 01 02 00 00 00 00 00 00 01 03 00 00 00 00 00 00 02 01 00 02 00 03 01 00" 27 4 0
    ∷ with_proof "p cnf 3 3 e 1 0 a 2 0 e 3 0 1 2 3 0 -1 -2 3 0 -3 0" "4D 52 50 01 00 04 00 01 01 00 00 00 00 00 00 01 02 00 00 00 00 00 00 01 03 00 00 00 00 00 00 02 01 00 01 00 01 01 00" 27 4 0
    ∷ with_proof "p cnf 3 3 e 1 0 a 2 0 e 3 0 1 2 3 0 -1 -2 3 0 -3 0" "4D 52 50 01 00 04 00 01 01 00 00 00 00 00 00 01 02 00 00 00 00 00 00 01 03 00 00 00 00 00 00 02 01 00 02 00 01 01 01" 28 4 0
    ∷ with_proof "p cnf 3 3 e 1 0 a 2 0 e 3 0 1 2 3 0 -1 -2 3 0 -3 0" "4D 52 50 01 00 04 00 01 01 00 00 00 00 00 00 01 02 00 00 00 00 00 00 01 03 00 00 00 00 00 00 02 01 00 02 00 01 00 80" 28 4 0
    ∷ with_proof "p cnf 2 2 e 1 0 1 0 -1 0" "4D 52 50 01 00 03 00 01 01 00 00 00 00 00 00 01 02 00 00 00 00 00 00 02 01 00 02 00 01 01 00" 28 3 0
    ∷ with_proof "p cnf 2 2 e 1 2 0 1 2 0 -1 -2 0" "4D 52 50 01 00 03 00 01 01 00 00 00 00 00 00 01 02 00 00 00 00 00 00 02 01 00 02 00 01 01 00" 28 3 0
    ∷ with_proof "p cnf 1 2 e 1 0 1 0 -1 0" "4D 52 50 01 00 04 00 01 01 00 00 00 00 00 00 01 02 00 00 00 00 00 00 02 01 00 02 00 01 00 00 01 03 00 00 00 00 00 00" 23 4 0
    ∷ with_proof "p cnf 1 2 e 1 0 1 0 -1 0" "4D 52 50 01 00 04 00 01 01 00 00 00 00 00 00 01 02 00 00 00 00 00 00 02 01 00 02 00 01 00 00 01 01 00 00 00 00 00 00" 32 4 0
    ∷ with_proof "p cnf 1 2 e 1 0 1 0 -1 0" "4D 52 50 01 00 03 00 01 01 00 00 00 00 00 00 01 02 00 00 00 00 00 00 02 01 00 02 00 01 00 00" 0 0 0
    ∷ with_proof "p cnf 1 1 e 1 0 -1 0" "4D 52 50 01 00 01 00 01 01 00 00 00 00 00 00" 32 1 0
    ∷ with_proof "p cnf 1 1 e 1 0 1 0" "4D 52 50 01 00 01 00 01 01 00 00 00 00 00 00" 32 1 0
    ∷ with_proof "p cnf 1 1 a 1 0 1 0" "4D 52 50 01 00 01 00 01 01 00 00 00 00 00 00" 0 0 0
    ∷ with_proof "p cnf 3 2 a 3 0 e 2 0 a 1 0 2 3 0 -2 -3 0" "4D 52 50 01 00 03 00 01 01 00 00 00 00 00 00 01 02 00 00 00 00 00 00 02 01 00 02 00 02 00 00" 31 3 3
    ∷ with_proof "p cnf 3 2 a 3 0 e 2 0 a 1 0 2 3 0 -2 -3 0" "4D 52 50 01 00 03 00 01 01 00 00 00 00 00 00 01 02 00 00 00 00 00 00 02 01 00 02 00 02 01 00" 30 3 3
    ∷ with_proof "p cnf 3 2 e 2 0 a 3 1 0 2 3 1 0 -2 -3 -1 0" "4D 52 50 01 00 03 00 01 01 00 00 00 00 00 00 01 02 00 00 00 00 00 00 02 01 00 02 00 02 02 00" 31 3 3
    ∷ with_proof "p cnf 3 2 e 2 0 a 3 1 0 2 3 1 0 -2 -3 -1 0" "4D 52 50 01 00 03 00 01 01 00 00 00 00 00 00 01 02 00 00 00 00 00 00 02 01 00 02 00 02 01 00" 31 3 1
    ∷ with_proof "p cnf 3 2 e 2 0 a 3 1 0 2 3 1 0 -2 -3 -1 0" "4D 52 50 01 00 03 00 01 01 00 00 00 00 00 00 01 02 00 00 00 00 00 00 02 01 00 02 00 02 03 00" 0 0 0
    ∷ with_proof "p cnf 3 2 a 3 1 0 e 2 0 2 3 1 0 -2 -3 -1 0" "4D 52 50 01 00 03 00 01 01 00 00 00 00 00 00 01 02 00 00 00 00 00 00 02 01 00 02 00 02 02 00" 31 3 3
    ∷ with_proof "p cnf 3 2 a 1 0 e 2 0 a 3 0 2 1 3 0 -2 1 -3 0" "4D 52 50 01 00 03 00 01 01 00 00 00 00 00 00 01 02 00 00 00 00 00 00 02 01 00 02 00 02 02 00" 0 0 0
    ∷ with_proof "p cnf 3 2 a 1 0 e 2 0 a 3 0 2 1 3 0 -2 1 -3 0" "4D 52 50 01 00 03 00 01 01 00 00 00 00 00 00 01 02 00 00 00 00 00 00 02 01 00 02 00 02 03 00" 30 3 1
    ∷ with_proof "p cnf 3 3 e 1 0 a 2 0 e 3 0 1 2 3 0 -1 -2 3 0 -3 0" "4D 52 50 01 00 02 00 01 01 00 00 00 00 00 00 02 01 00 02 00 01 00 00" 24 2 0
    ∷ with_proof "p cnf 3 3 e 1 0 a 2 0 e 3 0 1 2 3 0 -1 -2 3 0 -3 0" "4D 52 50 01 00 03 00 01 01 00 00 00 00 00 00 01 02 00 00 00 00 00 00 02 01 00 03 00 00 01 00" 24 3 0
    ∷ with_proof "p cnf 3 3 e 1 0 a 2 0 e 3 0 1 2 3 0 -1 -2 3 0 -3 0" "4D 52 50 01 00 03 00 01 01 00 00 00 00 00 00 01 02 00 00 00 00 00 00 02 01 00 02 00 41 01 00" 25 3 0
    ∷ with_proof "p cnf 3 3 e 1 0 a 2 0 e 3 0 1 2 3 0 -1 -2 3 0 -3 0" "4D 52 50 01 00 02 00 01 03 00 00 00 00 00 00 02 01 00 01 00 01 00 00" 26 2 0
    ∷ with_proof "p cnf 3 3 e 1 0 a 2 0 e 3 0 1 2 3 0 -1 -2 3 0 -3 0" "4D 52 50 01 00 02 00 01 01 00 00 00 00 00 00 02 01 00 01 00 01 02 00" 27 2 0
    ∷ with_proof "p" "4D 52 50 01 00 00 00" 3 1 0
    ∷ with_proof "p cnf 3 2 a 3 0 e 1 2 0 1 2 3 0 -1 -2 -3 0" "4D 52 50 01 00 03 00 01 01 00 00 00 00 00 00 01 02 00 00 00 00 00 00 02 01 00 02 00 01 00 00" 29 3 0
    ∷ with_proof "p cnf 3 2 a 3 0 e 1 2 0 1 2 3 0 -1 -2 -3 0" "4D 52 50 01 00 03 00 01 01 00 00 00 00 00 00 01 02 00 00 00 00 00 00 02 01 00 02 00 01 01 00" 29 3 0
    ∷ with_proof "p cnf 3 2 a 3 2 0 e 1 0 1 2 3 0 -1 -2 -3 0" "4D 52 50 01 00 03 00 01 01 00 00 00 00 00 00 01 02 00 00 00 00 00 00 02 01 00 02 00 01 02 00" 31 3 3
    ∷ with_proof "p cnf 3 2 a 3 2 0 e 1 0 1 2 3 0 -1 -2 -3 0" "4D 52 50 01 00 03 00 01 01 00 00 00 00 00 00 01 02 00 00 00 00 00 00 02 01 00 02 00 01 01 00" 30 3 3
    ∷ with_proof "p cnf 3 2 e 1 0 a 3 2 0 1 2 3 0 -1 -2 -3 0" "4D 52 50 01 00 03 00 01 01 00 00 00 00 00 00 01 02 00 00 00 00 00 00 02 01 00 02 00 01 01 00" 31 3 2
    ∷ with_proof "p cnf 3 2 e 1 0 a 3 2 0 1 2 3 0 -1 -2 -3 0" "4D 52 50 01 00 03 00 01 01 00 00 00 00 00 00 01 02 00 00 00 00 00 00 02 01 00 02 00 01 03 00" 0 0 0
    ∷ with_proof "p cnf 1 2 e 1 0 0 1 0" "4D 52 50 01 00 02 00 01 01 00 00 00 00 00 00 01 02 00 00 00 00 00 00" 32 2 0
    ∷ with_proof "p cnf 1 2 e 1 0 0 1 0" "4D 52 50 01 00 02 00 01 02 00 00 00 00 00 00 01 01 00 00 00 00 00 00" 0 0 0
    ∷ with_proof "p cnf 64 1 e 1 64 0 -64 0" "4D 52 50 01 00 01 00 01 01 00 00 00 00 00 00" 32 1 0
    ∷ with_proof "p cnf 64 2 e 1 64 0 1 64 0 -1 -64 0" "4D 52 50 01 00 03 00 01 01 00 00 00 00 00 00 01 02 00 00 00 00 00 00 02 01 00 02 00 01 00 00" 29 3 0
    ∷ with_proof "p cnf 64 2 e 1 64 0 1 64 0 -1 -64 0" "4D 52 50 01 00 03 00 01 01 00 00 00 00 00 00 01 02 00 00 00 00 00 00 02 01 00 02 00 40 00 00" 29 3 0
    ∷ with_proof "p cnf 64 3 e 1 64 0 1 64 0 -64 0 -1 0" "4D 52 50 01 00 05 00 01 01 00 00 00 00 00 00 01 02 00 00 00 00 00 00 02 01 00 02 00 40 00 00 01 03 00 00 00 00 00 00 02 03 00 04 00 01 00 00" 0 0 0
    ∷ with_proof "p cnf 7 4 e 6 7 0 a 5 0 6 7 5 0 -6 7 -5 0 6 -7 5 0 -6 -7 -5 0" "4D 52 50 01 00 07 00 01 01 00 00 00 00 00 00 01 02 00 00 00 00 00 00 01 03 00 00 00 00 00 00 01 04 00 00 00 00 00 00 02 01 00 02 00 06 01 00 02 03 00 04 00 06 01 00 02 05 00 06 00 07 00 00" 0 0 0
    ∷ with_proof "p cnf 7 4 e 6 7 0 a 5 0 6 7 5 0 -6 7 -5 0 6 -7 5 0 -6 -7 5 0" "4D 52 50 01 00 07 00 01 01 00 00 00 00 00 00 01 02 00 00 00 00 00 00 01 03 00 00 00 00 00 00 01 04 00 00 00 00 00 00 02 01 00 02 00 06 01 00 02 03 00 04 00 06 01 00 02 05 00 06 00 07 00 00" 31 7 5
    ∷ with_proof "p cnf 7 4 e 6 7 0 a 5 0 6 7 5 0 -6 7 -5 0 6 -7 -5 0 -6 -7 -5 0" "4D 52 50 01 00 07 00 01 01 00 00 00 00 00 00 01 02 00 00 00 00 00 00 01 03 00 00 00 00 00 00 01 04 00 00 00 00 00 00 02 01 00 02 00 06 01 00 02 03 00 04 00 06 01 00 02 05 00 06 00 07 00 00" 31 7 5
    ∷ with_proof "p cnf 4 4 e 1 3 4 0 a 2 0 1 3 2 0 -1 3 -2 0 4 -3 2 0 -4 -3 -2 0" "4D 52 50 01 00 07 00 01 01 00 00 00 00 00 00 01 02 00 00 00 00 00 00 01 03 00 00 00 00 00 00 01 04 00 00 00 00 00 00 02 01 00 02 00 01 01 00 02 03 00 04 00 04 01 00 02 05 00 06 00 03 00 00" 31 7 2
    ∷ with_proof "p cnf 6 7 e 1 2 3 5 6 0 a 4 0 5 4 0 -5 2 3 0 -5 1 -2 3 0 -1 -2 3 -4 0 2 -3 4 0 1 -2 -3 4 0 -1 -2 -3 -4 0" "4D 52 50 01 00 0E 00 01 01 00 00 00 00 00 00 01 02 00 00 00 00 00 00 02 01 00 02 00 05 00 00 01 03 00 00 00 00 00 00 02 01 00 04 00 05 00 00 01 04 00 00 00 00 00 00 02 05 00 06 00 01 01 00 02 03 00 07 00 02 01 00 01 05 00 00 00 00 00 00 01 06 00 00 00 00 00 00 01 07 00 00 00 00 00 00 02 0A 00 0B 00 01 01 00 02 09 00 0C 00 02 01 00 02 08 00 0D 00 03 00 00" 31 14 4
    ∷ with_proof "p cnf 3 3 e 1 3 0 a 2 0 1 3 0 -1 3 0 -3 2 0" "4D 52 50 01 00 05 00 01 01 00 00 00 00 00 00 01 02 00 00 00 00 00 00 01 03 00 00 00 00 00 00 02 01 00 02 00 01 01 00 02 04 00 03 00 03 00 00" 31 5 2
    ∷ []

-- checking answers so
abbrev pub checked_so : ProofCase → Bool
checked_so c =
    let r = (checks (text c.given) (hex c.proof)).reply in
    eqb r.number c.number && (eqb r.place c.place && eqb r.variable c.variable)

unfoldable pub all_checked : List ProofCase → Bool
unfolding checks
all_checked [] = true
all_checked (c ∷ cs) = checked_so c && all_checked cs

-- the head's refusal
unfoldable pub heads : List ℕ → Found
unfolding checks
heads s = head_fault merge_proof (record { variables = 0; prefix = []; matrix = [] }) s

-- ---- 004's Examples 15 and 16: roots of the last line, and the nodes
abbrev pub example_15 : String
example_15 = "p cnf 6 6 e 1 2 3 0 a 4 0 e 5 6 0 3 2 4 0 -3 2 -4 0 -2 4 5 0 1 -5 0 -2 6 0 -1 -6 0"

abbrev pub proof_15 : String
proof_15 = "4D 52 50 01 00 0C 00 01 01 00 00 00 00 00 00 01 02 00 00 00 00 00 00 02 01 00 02 00 03 01 00 01 03 00 00 00 00 00 00 02 03 00 04 00 02 01 00 01 04 00 00 00 00 00 00 02 05 00 06 00 05 00 00 01 05 00 00 00 00 00 00 02 03 00 08 00 02 00 00 01 06 00 00 00 00 00 00 02 09 00 0A 00 06 00 00 02 07 00 0B 00 01 01 00"

abbrev pub example_16 : String
example_16 = "p cnf 3 4 e 1 0 a 2 0 e 3 0 1 2 3 0 -1 -2 3 0 1 2 -3 0 -1 -2 -3 0"

abbrev pub proof_16 : String
proof_16 = "4D 52 50 01 00 07 00 01 01 00 00 00 00 00 00 01 02 00 00 00 00 00 00 02 01 00 02 00 01 01 00 01 03 00 00 00 00 00 00 01 04 00 00 00 00 00 00 02 04 00 05 00 01 01 00 02 03 00 06 00 03 00 00"

-- a branch over two star leaves is not one star leaf; two star leaves select b's root
abbrev pub stars : String
stars = "p cnf 4 4 e 1 0 a 2 0 e 3 4 0 1 3 0 -1 3 0 -3 4 0 -3 2 -4 0"

-- variable 64, and a second universal
abbrev pub wide : String
wide = "p cnf 64 3 e 64 0 a 63 1 0 64 63 0 -64 -63 1 0 -64 -63 -1 0"

abbrev pub wide_proof : String
wide_proof = "4D 52 50 01 00 03 00 01 01 00 00 00 00 00 00 01 02 00 00 00 00 00 00 02 01 00 02 00 40 03 00"

-- ---- playing on tables that no check wrote: column 2, node i at word 16(i−1) + 1
abbrev pub second : ℕ → List ℕ
second w = 7 ∷ w ∷ replicate 14 7

-- the first four nodes of column 2
abbrev pub nodes_of : ℕ → ℕ → ℕ → ℕ → List ℕ
nodes_of a b c d = second a ++ (second b ++ (second c ++ (second d ++ replicate 16320 7)))

unfoldable pub plays_second : ℕ → ℕ → ℕ → ℕ → ℕ → ℕ → Played
unfolding plays
plays_second a b c d r settings = playing 2 r (nodes_of a b c d) (settings ∷ [])

abbrev pub value : ℕ → Played
value v = record { number = 0; value = v }

abbrev pub unplayed : ℕ → Played
unplayed n = record { number = n; value = 0 }

unfoldable pub playing_of : ℕ → ℕ → ℕ → Played
unfolding plays
playing_of c r n = playing c r (replicate n 1) (0 ∷ [])

pub record ToldApart : Type 0 where
  pub texts : all_read texts ≡ true
  pub separate : no_separators (0 ∷ 8 ∷ 11 ∷ 12 ∷ 14 ∷ 31 ∷ 33 ∷ []) ≡ true
  pub proofs : all_checked proofs ≡ true
  -- 1,024 lines, and one more
  pub most_lines : heads (hex "4D 52 50 01 00 00 04" ++ replicate 8192 0) ≡ passes
  pub one_line_more : heads (hex "4D 52 50 01 00 01 04" ++ replicate 8200 0) ≡ fails 13 0
  -- what reading leaves: filled, zero, as it came
  pub read_reply : (reads (text "p cnf 64 2 a 64 0 e 3 1 0 64 -3 0 -64 1 -64 0")).reply
      ≡ record { number = 0; place = 0; variable = 0; variables = 64; clauses = 2; universals = 1; lines = 0 }
  pub filled_prefix : read_prefix (text "p cnf 64 2 a 64 0 e 3 1 0 64 -3 0 -64 1 -64 0") ≡ 320 ∷ 3 ∷ 1 ∷ replicate 61 0 ++ (9 ∷ [])
  pub filled_clauses : read_clauses (text "p cnf 64 2 a 64 0 e 3 1 0 64 -3 0 -64 1 -64 0")
      ≡ 9223372036854775808 ∷ 4 ∷ 1 ∷ 9223372036854775808 ∷ replicate 508 0 ++ (9 ∷ [])
  pub unread_prefix : read_prefix (text "p cnf 2 1 e 1 0 2 0") ≡ replicate 64 0 ++ (9 ∷ [])
  pub unread_clauses : read_clauses (text "p cnf 2 1 e 1 0 2 0") ≡ replicate 512 0 ++ (9 ∷ [])
  -- a refusal has 0 for each count
  pub refused_reply : (checks G []).reply ≡ record { number = 11; place = 0; variable = 0; variables = 0; clauses = 0; universals = 0; lines = 0 }
  -- what a refused check leaves
  pub refused_prefix : (leaves G (hex "4D")).prefix ≡ replicate 64 0 ++ (9 ∷ [])
  pub refused_clauses : (leaves G (hex "4D")).clauses ≡ replicate 512 0 ++ (9 ∷ [])
  pub refused_lines : (leaves G (hex "4D 52 50 01 00 01 00 01 01 00 00 00 00 00 00")).lines ≡ replicate 2048 0 ++ (9 ∷ [])
  pub refused_nodes : (leaves G (hex "4D 52 50 01 00 01 00 01 01 00 00 00 00 00 00")).nodes ≡ replicate 16384 0 ++ (9 ∷ [])
  pub refused_roots : (leaves G (hex "4D 52 50 01 00 01 00 01 01 00 00 00 00 00 00")).roots ≡ replicate 16384 0 ++ (9 ∷ [])
  -- 004's examples
  pub accepted_15 : (checks (text example_15) (hex proof_15)).reply
      ≡ record { number = 0; place = 0; variable = 0; variables = 6; clauses = 6; universals = 1; lines = 12 }
  pub nodes_15 : (leaves (text example_15) (hex proof_15)).nodes ≡ alone 3 ++ (alone 2 ++ (alone 1075838977 ++ (alone 3 ++ (alone 1074792451 ++ (alone 1 ++ (alone 0 ++ (alone 1 ++ (alone 0 ++ (alone 1 ++ (alone 0 ++ (alone 1073745922 ++ (replicate 16192 0 ++ (9 ∷ [])))))))))))))
  pub roots_15 : (leaves (text example_15) (hex proof_15)).roots ≡ alone 1 ++ (alone 2 ++ (alone 3 ++ (alone 4 ++ (alone 5 ++ (alone 6 ++ (alone 5 ++ (alone 8 ++ (alone 3 ++ (alone 10 ++ (alone 3 ++ (alone 12 ++ (replicate 16192 0 ++ (9 ∷ [])))))))))))))
  pub accepted_16 : (checks (text example_16) (hex proof_16)).reply
      ≡ record { number = 0; place = 0; variable = 0; variables = 3; clauses = 4; universals = 1; lines = 7 }
  pub nodes_16 : (leaves (text example_16) (hex proof_16)).nodes ≡ alone 3 ++ (alone 2 ++ (alone 1073741825 ++ (alone 3 ++ (alone 2 ++ (alone 1073744900 ++ (alone 0 ++ (replicate 16272 0 ++ (9 ∷ []))))))))
  pub roots_16 : (leaves (text example_16) (hex proof_16)).roots ≡ alone 1 ++ (alone 2 ++ (alone 3 ++ (alone 4 ++ (alone 5 ++ (alone 6 ++ (alone 3 ++ (replicate 16272 0 ++ (9 ∷ []))))))))
  -- what is printed: nodes of two digits, a shared node once, refusals with zeros, a star
  pub prints_15 : prints (text example_15) (hex proof_15)
      ≡ text "accepted 12\nmap 4 root 12\n12 if 1 then 3 else 5\n5 if 2 then 4 else 3\n4 zero\n3 if 3 then 2 else 1\n2 one\n1 zero\n"
  pub prints_missing : prints [] [] ≡ text "refused 3 0 0\n"
  pub prints_no_proof : prints G [] ≡ text "refused 11 0 0\n"
  pub prints_variable : prints G (hex "4D 52 50 01 00 03 00 01 01 00 00 00 00 00 00 01 02 00 00 00 00 00 00 02 01 00 02 00 01 00 00") ≡ text "refused 31 3 2\n"
  pub prints_star : prints (text "p cnf 1 1 a 1 0 0") (hex "4D 52 50 01 00 01 00 01 01 00 00 00 00 00 00") ≡ text "accepted 1\nmap 1 root 1\n1 star\n"
  pub prints_two_maps : prints (text wide) (hex wide_proof) ≡ text "accepted 3\nmap 63 root 3\n3 if 64 then 2 else 1\n2 one\n1 zero\nmap 1 root 3\n3 if 64 then 2 else 1\n2 zero\n1 star\n"
  pub prints_long : prints (replicate 65537 32) [] ≡ text "refused 1 0 0\n"
  pub prints_longest : prints (replicate 65536 32) [] ≡ text "refused 3 65536 0\n"
  pub prints_nine : prints (replicate 9 32) [] ≡ text "refused 3 9 0\n"
  pub prints_ten : prints (replicate 10 32) [] ≡ text "refused 3 10 0\n"
  pub prints_place : prints (replicate 12345 32) [] ≡ text "refused 3 12345 0\n"
  -- stars
  pub over_stars : (checks (text stars) (hex "4D 52 50 01 00 07 00 01 01 00 00 00 00 00 00 01 02 00 00 00 00 00 00 02 01 00 02 00 01 01 00 01 03 00 00 00 00 00 00 01 04 00 00 00 00 00 00 02 04 00 05 00 04 00 00 02 03 00 06 00 03 00 00")).reply ≡ refusal 31 7 2
  pub kept_stars : row_of 16 3 (leaves (text stars) (hex "4D 52 50 01 00 07 00 01 01 00 00 00 00 00 00 01 02 00 00 00 00 00 00 02 01 00 02 00 01 00 00 01 03 00 00 00 00 00 00 01 04 00 00 00 00 00 00 02 04 00 05 00 04 00 00 02 03 00 06 00 03 00 00")).roots ≡ alone 2
  pub kept_zero : row_of 16 7 (leaves (text stars) (hex "4D 52 50 01 00 07 00 01 01 00 00 00 00 00 00 01 02 00 00 00 00 00 00 02 01 00 02 00 01 00 00 01 03 00 00 00 00 00 00 01 04 00 00 00 00 00 00 02 04 00 05 00 04 00 00 02 03 00 06 00 03 00 00")).roots ≡ alone 5
  -- variable 64 and a second universal
  pub wide_nodes : row_of 16 3 (leaves (text wide) (hex wide_proof)).nodes ≡ 1139802113 ∷ 1139802113 ∷ replicate 14 0
  pub wide_leaves : row_of 16 2 (leaves (text wide) (hex wide_proof)).nodes ≡ 2 ∷ 3 ∷ replicate 14 0
  pub wide_roots : row_of 16 3 (leaves (text wide) (hex wide_proof)).roots ≡ 3 ∷ 3 ∷ replicate 14 0
  pub wide_lines : (leaves (text wide) (hex wide_proof)).lines ≡ 9223372036854775808 ∷ 0 ∷ 0 ∷ 9223372036854775808 ∷ replicate 2044 0 ++ (9 ∷ [])
  -- the last universal, bit 15 of the merge set
  pub last_nodes : row_of 16 3 (leaves (text "p cnf 17 2 e 17 0 a 1 2 3 4 5 6 7 8 9 10 11 12 13 14 15 16 0 17 16 0 -17 -16 1 0") (hex "4D 52 50 01 00 03 00 01 01 00 00 00 00 00 00 01 02 00 00 00 00 00 00 02 01 00 02 00 11 00 80")).nodes ≡ replicate 15 0 ++ (1090519041 ∷ [])
  pub last_roots : row_of 16 3 (leaves (text "p cnf 17 2 e 17 0 a 1 2 3 4 5 6 7 8 9 10 11 12 13 14 15 16 0 17 16 0 -17 -16 1 0") (hex "4D 52 50 01 00 03 00 01 01 00 00 00 00 00 00 01 02 00 00 00 00 00 00 02 01 00 02 00 11 00 80")).roots ≡ replicate 15 2 ++ (3 ∷ [])
  -- select: b's root where a's map is one star leaf, a's where b's is, a's where both are zero
  pub select_roots : row_of 16 3 (leaves (text "p cnf 3 2 a 2 0 e 1 0 a 3 0 1 -3 0 -1 2 0") (hex "4D 52 50 01 00 03 00 01 01 00 00 00 00 00 00 01 02 00 00 00 00 00 00 02 01 00 02 00 01 00 00")).roots ≡ 2 ∷ 1 ∷ replicate 14 0
  pub select_zero : row_of 16 3 (leaves (text "p cnf 2 2 e 1 0 a 2 0 1 2 0 -1 2 0") (hex "4D 52 50 01 00 03 00 01 01 00 00 00 00 00 00 01 02 00 00 00 00 00 00 02 01 00 02 00 01 00 00")).roots ≡ alone 1
  pub isomorphic_nodes : row_of 16 6 (leaves (text "p cnf 7 4 e 6 7 0 a 5 0 6 7 5 0 -6 7 -5 0 6 -7 5 0 -6 -7 -5 0") (hex "4D 52 50 01 00 07 00 01 01 00 00 00 00 00 00 01 02 00 00 00 00 00 00 01 03 00 00 00 00 00 00 01 04 00 00 00 00 00 00 02 01 00 02 00 06 01 00 02 03 00 04 00 06 01 00 02 05 00 06 00 07 00 00")).nodes ≡ alone 1078986755
  pub isomorphic_root : row_of 16 7 (leaves (text "p cnf 7 4 e 6 7 0 a 5 0 6 7 5 0 -6 7 -5 0 6 -7 5 0 -6 -7 -5 0") (hex "4D 52 50 01 00 07 00 01 01 00 00 00 00 00 00 01 02 00 00 00 00 00 00 01 03 00 00 00 00 00 00 01 04 00 00 00 00 00 00 02 01 00 02 00 06 01 00 02 03 00 04 00 06 01 00 02 05 00 06 00 07 00 00")).roots ≡ alone 5
  pub wide_resolvent : row_of 2 3 (leaves (text "p cnf 64 3 e 1 64 0 1 64 0 -64 0 -1 0") (hex "4D 52 50 01 00 05 00 01 01 00 00 00 00 00 00 01 02 00 00 00 00 00 00 02 01 00 02 00 40 00 00 01 03 00 00 00 00 00 00 02 03 00 04 00 01 00 00")).lines ≡ 1 ∷ 0 ∷ []
  -- a set of two words: variable 65 is the first of the second
  pub second_word : with (0 ∷ 0 ∷ []) 65 ≡ 0 ∷ 1 ∷ []
  pub in_second_word : has (0 ∷ 1 ∷ []) 65 ≡ true
  -- tables too short, and a text too long
  pub short_prefix : (checking [] [] (record { prefix = replicate 63 9; clauses = replicate 512 9; lines = replicate 2048 9; nodes = replicate 16384 9; roots = replicate 16384 9 })).reply ≡ refusal 2 0 0
  pub short_clauses : (checking [] [] (record { prefix = replicate 64 9; clauses = replicate 511 9; lines = replicate 2048 9; nodes = replicate 16384 9; roots = replicate 16384 9 })).reply ≡ refusal 2 0 0
  pub short_lines : (checking [] [] (record { prefix = replicate 64 9; clauses = replicate 512 9; lines = replicate 2047 9; nodes = replicate 16384 9; roots = replicate 16384 9 })).reply ≡ refusal 2 0 0
  pub short_nodes : (checking [] [] (record { prefix = replicate 64 9; clauses = replicate 512 9; lines = replicate 2048 9; nodes = replicate 16383 9; roots = replicate 16384 9 })).reply ≡ refusal 2 0 0
  pub short_roots : (checking [] [] (record { prefix = replicate 64 9; clauses = replicate 512 9; lines = replicate 2048 9; nodes = replicate 16384 9; roots = replicate 16383 9 })).reply ≡ refusal 2 0 0
  pub just_long_enough : (checking [] [] (record { prefix = replicate 64 9; clauses = replicate 512 9; lines = replicate 2048 9; nodes = replicate 16384 9; roots = replicate 16384 9 })).reply ≡ refusal 3 0 0
  pub read_short_prefix : (reading [] (replicate 63 9) (replicate 512 9)).reply ≡ refusal 2 0 0
  pub read_short_clauses : (reading [] (replicate 64 9) (replicate 511 9)).reply ≡ refusal 2 0 0
  pub read_just_enough : (reading [] (replicate 64 9) (replicate 512 9)).reply ≡ refusal 3 0 0
  pub long_text : (checks (replicate 65537 32) []).reply ≡ refusal 1 0 0
  pub longest_text : (checks (replicate 65536 32) []).reply ≡ refusal 3 65536 0
  pub long_read : (reads (replicate 65537 32)).reply ≡ refusal 1 0 0
  pub longest_read : (reads (replicate 65536 32)).reply ≡ refusal 3 65536 0
  pub long_leaves : (leaves (replicate 65537 32) []).nodes ≡ replicate 16385 9
  -- playing: leaves, both ends of a branch, words that are none, ends that do not fall, columns and roots out of range
  pub play_star : plays_second 1 2 3 0 1 0 ≡ value 1
  pub play_one : plays_second 1 2 3 0 2 0 ≡ value 2
  pub play_zero : plays_second 1 2 3 0 3 0 ≡ value 3
  pub play_low : plays_second 1 2 3 1139803138 4 0 ≡ value 2
  pub play_high : plays_second 1 2 3 1139803138 4 9223372036854775808 ≡ value 3
  pub play_none : plays_second 0 2 3 1073741825 4 0 ≡ unplayed 42
  pub play_not_taken : plays_second 0 2 3 1073741825 4 1 ≡ value 2
  pub play_four : plays_second 4 2 3 0 1 0 ≡ unplayed 42
  pub play_below_branch : plays_second 1073741823 2 3 0 1 0 ≡ unplayed 42
  pub play_variable_65 : plays_second 1 2 3 1140850689 4 0 ≡ unplayed 42
  pub play_own_end : plays_second 1 2 3 1073744897 4 1 ≡ unplayed 42
  pub play_own_other_end : plays_second 1 2 3 1073742851 4 0 ≡ unplayed 42
  pub play_rising_end : plays_second 1 2 3 1074789377 4 1 ≡ unplayed 42
  pub play_deep : plays_second 1 1074790400 1075840000 1076889600 4 0 ≡ value 1
  pub play_column_0 : playing_of 0 1 16384 ≡ unplayed 41
  pub play_column_1 : playing_of 1 1 16384 ≡ value 1
  pub play_column_16 : playing_of 16 1024 16384 ≡ value 1
  pub play_column_17 : playing_of 17 1 16384 ≡ unplayed 41
  pub play_root_0 : playing_of 1 0 16384 ≡ unplayed 41
  pub play_root_1025 : playing_of 1 1025 16384 ≡ unplayed 41
  pub play_short : playing_of 1 1 16383 ≡ unplayed 41
  pub play_longer : playing_of 1 1 16385 ≡ value 1

pub told_apart : ToldApart
unfolding prints texts all_read no_separators proofs all_checked heads reads read_prefix read_clauses leaves checks plays plays_second playing_of G reading checking bit has with
told_apart = record {
  texts = refl;
  separate = refl;
  proofs = refl;
  most_lines = refl;
  one_line_more = refl;
  read_reply = refl;
  filled_prefix = refl;
  filled_clauses = refl;
  unread_prefix = refl;
  unread_clauses = refl;
  refused_reply = refl;
  refused_prefix = refl;
  refused_clauses = refl;
  refused_lines = refl;
  refused_nodes = refl;
  refused_roots = refl;
  accepted_15 = refl;
  nodes_15 = refl;
  roots_15 = refl;
  accepted_16 = refl;
  nodes_16 = refl;
  roots_16 = refl;
  prints_15 = refl;
  prints_missing = refl;
  prints_no_proof = refl;
  prints_variable = refl;
  prints_star = refl;
  prints_two_maps = refl;
  prints_long = refl;
  prints_longest = refl;
  prints_nine = refl;
  prints_ten = refl;
  prints_place = refl;
  over_stars = refl;
  kept_stars = refl;
  kept_zero = refl;
  wide_nodes = refl;
  wide_leaves = refl;
  wide_roots = refl;
  wide_lines = refl;
  last_nodes = refl;
  last_roots = refl;
  select_roots = refl;
  select_zero = refl;
  isomorphic_nodes = refl;
  isomorphic_root = refl;
  wide_resolvent = refl;
  second_word = refl;
  in_second_word = refl;
  short_prefix = refl;
  short_clauses = refl;
  short_lines = refl;
  short_nodes = refl;
  short_roots = refl;
  just_long_enough = refl;
  read_short_prefix = refl;
  read_short_clauses = refl;
  read_just_enough = refl;
  long_text = refl;
  longest_text = refl;
  long_read = refl;
  longest_read = refl;
  long_leaves = refl;
  play_star = refl;
  play_one = refl;
  play_zero = refl;
  play_low = refl;
  play_high = refl;
  play_none = refl;
  play_not_taken = refl;
  play_four = refl;
  play_below_branch = refl;
  play_variable_65 = refl;
  play_own_end = refl;
  play_own_other_end = refl;
  play_rising_end = refl;
  play_deep = refl;
  play_column_0 = refl;
  play_column_1 = refl;
  play_column_16 = refl;
  play_column_17 = refl;
  play_root_0 = refl;
  play_root_1025 = refl;
  play_short = refl;
  play_longer = refl;
}
