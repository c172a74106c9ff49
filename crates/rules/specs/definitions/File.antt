-- Proof file (01): head, records, lines; and the other way, the file of given lines.
use Rattle.std.specs.Prelude.{Ok, Err, Result, Bool, true, false, not, ◌&&◌, ◌||◌, List, [], ◌∷◌, ◌++◌, ℕ, zero, suc, ◌+◌, ◌*◌, ◌/◌, ◌%◌, eqb, ltb, length, get_or, take, drop}
use Rattle.rules.specs.declared.Resolution.{Resolution}
use Rattle.rules.specs.declared.Line.{Line}
use Rattle.rules.specs.declared.Line.TheVariants as L
use Rattle.rules.specs.definitions.Layout.{head_bytes, record_bytes}
use Rattle.rules.specs.definitions.Limits.{lines_most}
use Rattle.rules.specs.definitions.Refusals.{bad_mark, bad_length, bad_line_count, bad_kind, axiom_tail}
use Rattle.rules.specs.definitions.Faults.{Fault, fault, Found, first_of}
use Rattle.rules.specs.definitions.Formula.{Formula, universals, left_of}
use Rattle.rules.specs.definitions.Text.{spelled}

-- the byte at a place, counted from 0; past the end, where nothing is asked, 0
abbrev pub byte_at : List ℕ → ℕ → ℕ
byte_at s k = get_or s k 0

-- every two-byte number in the file has its low byte first
unfoldable pub pair_at : List ℕ → ℕ → ℕ
pair_at s k = byte_at s k + byte_at s (k + 1) * 256

-- ---- a record as a line
-- bytes 3 to 7 are zero
abbrev pub bare_tail : List ℕ → Bool
bare_tail s = eqb (byte_at s 3) 0 && (eqb (byte_at s 4) 0 && (eqb (byte_at s 5) 0 && (eqb (byte_at s 6) 0 && eqb (byte_at s 7) 0)))

abbrev pub resolution_at : List ℕ → Resolution
resolution_at s = record { a = pair_at s 1; b = pair_at s 3; pivot = byte_at s 5; merge = pair_at s 6 }

-- a line, or the refusal's number
abbrev pub Decoded : Type 0
Decoded = Result Line ℕ

unfoldable pub decoded : List ℕ → Decoded
decoded s =
    elim (eqb (byte_at s 0) 1) [
      | true ↦ elim (bare_tail s) [ true ↦ Ok (L.Axiom (pair_at s 1)) | false ↦ Err axiom_tail ]
      | false ↦ elim (eqb (byte_at s 0) 2) [ true ↦ Ok (L.Resolve (resolution_at s)) | false ↦ Err bad_kind ]
    ]

-- ---- kinds of files
-- one version of a kind of file
pub record Version : Type 0 where
  -- bytes between head and records, for k universals
  pub between : ℕ → ℕ
  -- what is tested there, for a formula and the whole file
  pub faults : Formula → List ℕ → List Fault
  -- a record as a line
  pub decode : List ℕ → Decoded
  -- x stands left of u
  pub left : Formula → List ℕ → ℕ → ℕ → Bool

-- a kind of file: its mark, the versions it knows, and what each of them is
pub record Form : Type 0 where
  pub mark : List ℕ
  pub known : ℕ → Bool
  pub version : ℕ → Version

-- MRP, version 1: nothing stands between head and records, and left is left in the prefix
abbrev pub version_1 : Version
version_1 = record { between = λ k. 0; faults = λ F s. []; decode = decoded; left = λ F s. left_of F.prefix }

abbrev pub merge_proof : Form
merge_proof = record { mark = 77 ∷ 82 ∷ 80 ∷ []; known = λ n. eqb n 1; version = λ n. version_1 }

-- the version that the head announces
abbrev pub version_in : Form → List ℕ → Version
version_in form s = form.version (pair_at s 3)

-- the line count that the head announces
abbrev pub announced : List ℕ → ℕ
announced s = pair_at s 5

-- where the records begin, for a formula
abbrev pub records_at : Form → Formula → List ℕ → ℕ
records_at form F s = head_bytes + (version_in form s).between (length (universals F.prefix))

-- the head's tests in order, for a formula
abbrev pub head_faults : Form → Formula → List ℕ → List Fault
head_faults form F s =
    fault bad_mark (ltb (length s) head_bytes || (not (spelled form.mark (take 3 s)) || not (form.known (pair_at s 3))))
    ∷ fault bad_length (not (eqb (length s) (records_at form F s + record_bytes * announced s)))
    ∷ fault bad_line_count (ltb (announced s) 1 || ltb lines_most (announced s))
    ∷ (version_in form s).faults F s

-- the head's first fault
unfoldable pub head_fault : Form → Formula → List ℕ → Found
head_fault form F s = first_of (head_faults form F s)

-- n records of 8 bytes
unfoldable pub split : ℕ → List ℕ → List (List ℕ)
split zero s = []
split (suc n) s = take record_bytes s ∷ split n (drop record_bytes s)

-- the records of a file
unfoldable pub records : Form → Formula → List ℕ → List (List ℕ)
records form F s = split (announced s) (drop (records_at form F s) s)

-- ---- the file of given lines
abbrev pub pair_bytes : ℕ → List ℕ
pair_bytes n = n % 256 ∷ n / 256 ∷ []

unfoldable pub encoded : Line → List ℕ
encoded (L.Axiom c) = (1 ∷ pair_bytes c) ++ (0 ∷ 0 ∷ 0 ∷ 0 ∷ 0 ∷ [])
encoded (L.Resolve r) = (2 ∷ pair_bytes r.a) ++ (pair_bytes r.b ++ (r.pivot ∷ pair_bytes r.merge))

unfoldable pub encoded_all : List Line → List ℕ
encoded_all [] = []
encoded_all (l ∷ ls) = encoded l ++ encoded_all ls

-- the mark, a version and the number of lines; what stands between; and the lines
unfoldable pub file_of : List ℕ → ℕ → List ℕ → List Line → List ℕ
file_of mark version between ls = mark ++ (pair_bytes version ++ (pair_bytes (length ls) ++ (between ++ encoded_all ls)))
