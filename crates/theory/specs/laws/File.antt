-- A line goes into the file and comes back; the records of a file of lines are those lines, and its head passes.
use Rattle.std.specs.Prelude.{Ok, Err, ◌≡◌, refl, Bool, true, false, not, ◌&&◌, ◌||◌, eqb, length, get_or, take, drop, replicate}
use Rattle.std.proofs.Common.{sym, ◌∙◌, arith, take_at, drop-drop}
use Rattle.std.proofs.Math.Path.{ap}
use Rattle.std.proofs.lemmas.Bool.{false≢true}
use mathlib.Core.List.{List, [], ◌∷◌, ◌++◌, map}
use Prim.Native.Nat.{ℕ, zero, suc, ◌+◌, ◌*◌, ◌/◌, ◌%◌, ◌≤◌, ◌<◌}
use Rattle.std.proofs.Math.Dec.{ltb}
use Rattle.std.proofs.Math.ListN.{length-append}
use Rattle.std.proofs.Math.Seq.{drop_at}
use borrow.Author.Tests.{eq-eqb, ne_eqb, eqb-true, eqb-false, le-ltb}
use Rattle.rules.specs.declared.Resolution.{Resolution}
use Rattle.rules.specs.declared.Line.{Line}
use Rattle.rules.specs.declared.Line.TheVariants as L
use Rattle.rules.specs.definitions.Layout.{record_bytes, head_bytes}
use Rattle.rules.specs.definitions.Limits.{lines_most}
use Rattle.rules.specs.definitions.Refusals.{bad_mark, bad_length, bad_line_count, bad_kind, axiom_tail}
use Rattle.rules.specs.definitions.Text.{spelled}
use Rattle.rules.specs.definitions.Faults.{Fault, fault, first_of}
use Rattle.rules.specs.definitions.Faults.Found.{passes, fails}
use Rattle.rules.specs.definitions.Formula.{Formula, universals}
use Rattle.rules.specs.definitions.File.{Version, Form, pair_at, bare_tail, resolution_at, decoded, pair_bytes, encoded, encoded_all, file_of, split, records, announced, records_at, head_fault}
use Rattle.rules.specs.statements.Proves.{AllBytes}

pub no_bytes : AllBytes []
no_bytes i = omega arith

one_byte : (b : ℕ) (s : List ℕ) → b < 256 → AllBytes s → AllBytes (b ∷ s)
one_byte b s h a zero = h
one_byte b s h a (suc i) = a i

both_bytes : (s t : List ℕ) → AllBytes s → AllBytes t → AllBytes (s ++ t)
both_bytes [] t a b = b
both_bytes (x ∷ s) t a b = one_byte x (s ++ t) (a 0) (both_bytes s t (λ i. a (suc i)) b)

pair_of_bytes : (n : ℕ) → n < 65536 → AllBytes (pair_bytes n)
pair_of_bytes n h = one_byte (n % 256) (n / 256 ∷ []) (omega arith) (one_byte (n / 256) [] (omega arith) no_bytes)

zeros : (n : ℕ) → AllBytes (replicate n 0)
zeros zero = no_bytes
zeros (suc n) = one_byte 0 (replicate n 0) (omega arith) (zeros n)

-- ---- of a list of tests the first that is to be given decides
pub first_given : (n : ℕ) (t : Bool) (fs : List Fault) → t ≡ true → first_of (fault n t ∷ fs) ≡ fails n 0
unfolding first_of
first_given n t fs e = ap (λ (t : Bool). first_of (fault n t ∷ fs)) e

pub first_passed : (n : ℕ) (t : Bool) (fs : List Fault) → t ≡ false → first_of (fault n t ∷ fs) ≡ first_of fs
unfolding first_of
first_passed n t fs e = ap (λ (t : Bool). first_of (fault n t ∷ fs)) e

-- ---- what a record decodes to, by its first byte
module _ (s : List ℕ) where
  pub decoded_axiom : get_or s 0 0 ≡ 1 → bare_tail s ≡ true → decoded s ≡ Ok (L.Axiom (pair_at s 1))
  unfolding decoded
  decoded_axiom k t = rw (decoded, eq-eqb _ _ k, t)

  pub decoded_tail : get_or s 0 0 ≡ 1 → bare_tail s ≡ false → decoded s ≡ Err axiom_tail
  unfolding decoded
  decoded_tail k t = rw (decoded, eq-eqb _ _ k, t)

  pub decoded_resolution : (get_or s 0 0 ≡ 1 → ⊥) → get_or s 0 0 ≡ 2 → decoded s ≡ Ok (L.Resolve (resolution_at s))
  unfolding decoded
  decoded_resolution k t = simp (decoded, ne_eqb _ _ k, eq-eqb _ _ t)

  pub decoded_kind : (get_or s 0 0 ≡ 1 → ⊥) → (get_or s 0 0 ≡ 2 → ⊥) → decoded s ≡ Err bad_kind
  unfolding decoded
  decoded_kind k t = simp (decoded, ne_eqb _ _ k, ne_eqb _ _ t)

  -- a refusal has its number
  pub refused_number : (n : ℕ) → decoded s ≡ Err n → 1 ≤ n
  refused_number n e = first (eqb (get_or s 0 0) 1) refl
    where
      told : (k : ℕ) → 1 ≤ k → decoded s ≡ Err k → 1 ≤ n
      told k h p = let q : Err n ≡ Err k = sym e ∙ p in let z : n ≡ k = cc in omega arith

      none : (l : Line) → decoded s ≡ Ok l → 1 ≤ n
      none l p = let q : Err n ≡ Ok l = sym e ∙ p in let z : ◌≡◌ {A = ℕ} 0 1 = cc in absurd (omega arith)

      second : (get_or s 0 0 ≡ 1 → ⊥) → (t : Bool) → eqb (get_or s 0 0) 2 ≡ t → 1 ≤ n
      second o true t = none _ (decoded_resolution o (eqb-true (get_or s 0 0) 2 t))
      second o false t = told bad_kind (omega arith) (decoded_kind o (eqb-false (get_or s 0 0) 2 t))

      bare : get_or s 0 0 ≡ 1 → (t : Bool) → bare_tail s ≡ t → 1 ≤ n
      bare o true t = none _ (decoded_axiom o t)
      bare o false t = told axiom_tail (omega arith) (decoded_tail o t)

      first : (t : Bool) → eqb (get_or s 0 0) 1 ≡ t → 1 ≤ n
      first true t = bare (eqb-true (get_or s 0 0) 1 t) (bare_tail s) refl
      first false t = second (eqb-false (get_or s 0 0) 1 t) (eqb (get_or s 0 0) 2) refl

-- ---- out and back
-- two bytes make their number
pair_back : (n : ℕ) → n % 256 + n / 256 * 256 ≡ n
pair_back n = omega arith

-- the bytes of a line decode to it
pub decoded_encoded : (l : Line) → decoded (encoded l) ≡ Ok l
unfolding decoded encoded pair_at
decoded_encoded (L.Axiom c) = rw (pair_back c)
decoded_encoded (L.Resolve r) = rw (pair_back r.a, pair_back r.b, pair_back r.merge)

pub length_encoded : (l : Line) → length (encoded l) ≡ record_bytes
unfolding encoded
length_encoded (L.Axiom c) = refl
length_encoded (L.Resolve r) = refl

-- both parts of a test hold
both : (s t : Bool) → (s && t) ≡ true → (s ≡ true) × (t ≡ true)
both true t e = (refl, e)
both false t e = absurd (false≢true e)

-- five zero bytes
tail_zero : (a b c d e : ℕ) → (eqb a 0 && (eqb b 0 && (eqb c 0 && (eqb d 0 && eqb e 0)))) ≡ true → a ∷ b ∷ c ∷ d ∷ e ∷ [] ≡ 0 ∷ 0 ∷ 0 ∷ 0 ∷ 0 ∷ []
tail_zero a b c d e t =
    let x = both (eqb a 0) (eqb b 0 && (eqb c 0 && (eqb d 0 && eqb e 0))) t in
    let y = both (eqb b 0) (eqb c 0 && (eqb d 0 && eqb e 0)) x.1 in
    let z = both (eqb c 0) (eqb d 0 && eqb e 0) y.1 in
    let w = both (eqb d 0) (eqb e 0) z.1 in
    rw (eqb-true a 0 x.0, eqb-true b 0 y.0, eqb-true c 0 z.0, eqb-true d 0 w.0, eqb-true e 0 w.1)

low : (a b : ℕ) → a < 256 → (a + b * 256) % 256 ≡ a
low a b h = omega arith

high : (a b : ℕ) → a < 256 → (a + b * 256) / 256 ≡ b
high a b h = omega arith

-- eight bytes that decode to a line are the bytes of that line
encoded_eight : (k a b c d e f g : ℕ) (l : Line) → a < 256 → c < 256 → f < 256
    → decoded (k ∷ a ∷ b ∷ c ∷ d ∷ e ∷ f ∷ g ∷ []) ≡ Ok l → encoded l ≡ k ∷ a ∷ b ∷ c ∷ d ∷ e ∷ f ∷ g ∷ []
unfolding encoded pair_at
encoded_eight k a b c d e f g l ha hc hf h = first (eqb k 1) refl
  where
    s : List ℕ
    s = k ∷ a ∷ b ∷ c ∷ d ∷ e ∷ f ∷ g ∷ []

    as_axiom : (t : Bool) → bare_tail s ≡ t → k ≡ 1 → encoded l ≡ s
    as_axiom true t one =
        let p : Ok l ≡ Ok (L.Axiom (a + b * 256)) = sym h ∙ decoded_axiom s one t in
        let q : l ≡ L.Axiom (a + b * 256) = cc in
        ap encoded q ∙ rw (low a b ha, high a b ha, one, tail_zero c d e f g t)
    as_axiom false t one = let p : Ok l ≡ Err axiom_tail = sym h ∙ decoded_tail s one t in let z : ◌≡◌ {A = ℕ} 0 1 = cc in absurd (omega arith)

    second : (t : Bool) → eqb k 2 ≡ t → (k ≡ 1 → ⊥) → encoded l ≡ s
    second true t other =
        let r : Resolution = record { a = a + b * 256; b = c + d * 256; pivot = e; merge = f + g * 256 } in
        let p : Ok l ≡ Ok (L.Resolve r) = sym h ∙ decoded_resolution s other (eqb-true k 2 t) in
        let q : l ≡ L.Resolve r = cc in
        ap encoded q ∙ rw (low a b ha, high a b ha, low c d hc, high c d hc, low f g hf, high f g hf, eqb-true k 2 t)
    second false t other = let p : Ok l ≡ Err bad_kind = sym h ∙ decoded_kind s other (eqb-false k 2 t) in let z : ◌≡◌ {A = ℕ} 0 1 = cc in absurd (omega arith)

    first : (t : Bool) → eqb k 1 ≡ t → encoded l ≡ s
    first true t = as_axiom (bare_tail s) refl (eqb-true k 1 t)
    first false t = second (eqb k 2) refl (eqb-false k 1 t)

-- a record of 8 bytes that decodes to a line is the line's bytes
pub encoded_decoded : (s : List ℕ) (l : Line) → length s ≡ record_bytes → AllBytes s → decoded s ≡ Ok l → encoded l ≡ s
encoded_decoded [] l n h e = absurd (omega arith)
encoded_decoded (x0 ∷ []) l n h e = absurd (omega arith)
encoded_decoded (x0 ∷ x1 ∷ []) l n h e = absurd (omega arith)
encoded_decoded (x0 ∷ x1 ∷ x2 ∷ []) l n h e = absurd (omega arith)
encoded_decoded (x0 ∷ x1 ∷ x2 ∷ x3 ∷ []) l n h e = absurd (omega arith)
encoded_decoded (x0 ∷ x1 ∷ x2 ∷ x3 ∷ x4 ∷ []) l n h e = absurd (omega arith)
encoded_decoded (x0 ∷ x1 ∷ x2 ∷ x3 ∷ x4 ∷ x5 ∷ []) l n h e = absurd (omega arith)
encoded_decoded (x0 ∷ x1 ∷ x2 ∷ x3 ∷ x4 ∷ x5 ∷ x6 ∷ []) l n h e = absurd (omega arith)
encoded_decoded (x0 ∷ x1 ∷ x2 ∷ x3 ∷ x4 ∷ x5 ∷ x6 ∷ x7 ∷ []) l n h e = encoded_eight x0 x1 x2 x3 x4 x5 x6 x7 l (h 1) (h 3) (h 6) e
encoded_decoded (x0 ∷ x1 ∷ x2 ∷ x3 ∷ x4 ∷ x5 ∷ x6 ∷ x7 ∷ x8 ∷ s) l n h e = absurd (omega arith)

-- ---- records
pub length_split : (n : ℕ) (s : List ℕ) → length (split n s) ≡ n
unfolding split
length_split zero s = refl
length_split (suc n) s = ap suc (length_split n (drop record_bytes s))

-- the i-th record, from 0
pub split_at : (n : ℕ) (s : List ℕ) (i : ℕ) → i < n → get_or (split n s) i [] ≡ take record_bytes (drop (record_bytes * i) s)
unfolding split
split_at zero s i h = absurd (omega arith)
split_at (suc n) s zero h = refl
split_at (suc n) s (suc i) h =
    let e : record_bytes + record_bytes * i ≡ record_bytes * suc i = omega arith in
    split_at n (drop record_bytes s) i (omega arith) ∙ rw (drop-drop (record_bytes * i) record_bytes s, e)

-- the records of lines are their bytes
split_encoded : (ls : List Line) → split (length ls) (encoded_all ls) ≡ map encoded ls
unfolding split encoded_all
split_encoded [] = refl
split_encoded (l ∷ ls) =
    rw (take_at (encoded l) (encoded_all ls) record_bytes (length_encoded l), drop_at (encoded l) (encoded_all ls) record_bytes (length_encoded l), split_encoded ls)

length_encoded_all : (ls : List Line) → length (encoded_all ls) ≡ record_bytes * length ls
unfolding encoded_all
length_encoded_all [] = refl
length_encoded_all (l ∷ ls) = omega (arith, length-append (encoded l) (encoded_all ls), length_encoded l, length_encoded_all ls)

spelled_self : (m : List ℕ) → spelled m m ≡ true
unfolding spelled
spelled_self [] = refl
spelled_self (a ∷ m) = rw (eq-eqb a a refl, spelled_self m)

-- ---- the bytes of lines
-- a line whose numbers fit the bytes of its record
abbrev pub Fits : Line → Type 0
Fits (L.Axiom c) = c < 65536
Fits (L.Resolve r) = (r.a < 65536) × (r.b < 65536) × (r.pivot < 256) × (r.merge < 65536)

encoded_bytes : (l : Line) → Fits l → AllBytes (encoded l)
unfolding encoded
encoded_bytes (L.Axiom c) h = one_byte 1 (pair_bytes c ++ replicate 5 0) (omega arith) (both_bytes (pair_bytes c) (replicate 5 0) (pair_of_bytes c h) (zeros 5))
encoded_bytes (L.Resolve r) h =
    let p : List ℕ = r.pivot ∷ pair_bytes r.merge in
    let b : List ℕ = pair_bytes r.b ++ p in
    one_byte 2 (pair_bytes r.a ++ b) (omega arith)
    (both_bytes (pair_bytes r.a) b (pair_of_bytes r.a h.0)
    (both_bytes (pair_bytes r.b) p (pair_of_bytes r.b h.1)
    (one_byte r.pivot (pair_bytes r.merge) h.2 (pair_of_bytes r.merge h.3))))

all_encoded_bytes : (ls : List Line) (d : Line) → ((i : ℕ) → i < length ls → Fits (get_or ls i d)) → AllBytes (encoded_all ls)
unfolding encoded_all
all_encoded_bytes [] d h = no_bytes
all_encoded_bytes (l ∷ ls) d h = both_bytes (encoded l) (encoded_all ls) (encoded_bytes l (h 0 (omega arith))) (all_encoded_bytes ls d (λ i b. h (suc i) (omega (arith, b))))

-- ---- the file of given lines, for a form whose mark has three bytes, and what its version has between head and records
module _ (x y z version : ℕ) (known : ℕ → Bool) (versions : ℕ → Version) (between : List ℕ) (ls : List Line) (F : Formula)
    (wide : length between ≡ (versions version).between (length (universals F.prefix))) where
  abbrev form : Form
  form = record { mark = x ∷ y ∷ z ∷ []; known = known; version = versions }

  abbrev file : List ℕ
  file = file_of (x ∷ y ∷ z ∷ []) version between ls

  -- it announces its version and its lines
  pub version_file : pair_at file 3 ≡ version
  unfolding file_of pair_at
  version_file = pair_back version

  pub announced_file : announced file ≡ length ls
  unfolding file_of pair_at
  announced_file = pair_back (length ls)

  at_records : records_at form F file ≡ head_bytes + length between
  at_records = ap (λ (n : ℕ). head_bytes + (versions n).between (length (universals F.prefix))) version_file ∙ ap (λ (w : ℕ). head_bytes + w) (sym wide)

  length_file : length file ≡ head_bytes + length between + record_bytes * length ls
  unfolding file_of
  length_file = omega (arith, length-append between (encoded_all ls), length_encoded_all ls)

  -- its records are the bytes of its lines
  pub records_file : records form F file ≡ map encoded ls
  unfolding file_of records
  records_file =
      ap (λ (n : ℕ). split n (drop (records_at form F file) file)) announced_file
      ∙ ap (λ (w : ℕ). split (length ls) (drop w file)) at_records
      ∙ ap (split (length ls)) (sym (drop-drop (length between) head_bytes file) ∙ drop_at between (encoded_all ls) (length between) refl)
      ∙ split_encoded ls

  unmarked : known version ≡ true → (ltb (length file) head_bytes || (not (spelled form.mark (take 3 file)) || not (known (pair_at file 3)))) ≡ false
  unfolding file_of
  unmarked k = rw (le-ltb (length file) head_bytes (omega (arith, length_file)), spelled_self (x ∷ y ∷ z ∷ []), version_file, k)

  fitting : not (eqb (length file) (records_at form F file + record_bytes * announced file)) ≡ false
  fitting = rw (announced_file, at_records, eq-eqb _ _ length_file)

  counted : 1 ≤ length ls → length ls ≤ lines_most → (ltb (announced file) 1 || ltb lines_most (announced file)) ≡ false
  counted some few = rw (announced_file, le-ltb (length ls) 1 some, le-ltb lines_most (length ls) few)

  -- its head passes, with a known version whose own tests pass, and 1 to 1,024 lines
  pub head_file : known version ≡ true → first_of ((versions version).faults F file) ≡ passes → 1 ≤ length ls → length ls ≤ lines_most → head_fault form F file ≡ passes
  unfolding head_fault first_of
  head_file k own some few =
      first_passed bad_mark _ (fault bad_length (not (eqb (length file) (records_at form F file + record_bytes * announced file))) ∷ last) (unmarked k)
      ∙ first_passed bad_length _ last fitting
      ∙ first_passed bad_line_count _ ((versions (pair_at file 3)).faults F file) (counted some few)
      ∙ ap (λ (n : ℕ). first_of ((versions n).faults F file)) version_file
      ∙ own
    where
      last : List Fault
      last = fault bad_line_count (ltb (announced file) 1 || ltb lines_most (announced file)) ∷ (versions (pair_at file 3)).faults F file

  -- it is a file of bytes where its mark is, its lines fit, and what stands between is
  pub bytes_file : x < 256 → y < 256 → z < 256 → version < 65536 → AllBytes between → length ls < 65536
      → (d : Line) → ((i : ℕ) → i < length ls → Fits (get_or ls i d)) → AllBytes file
  unfolding file_of
  bytes_file hx hy hz hv hb hn d fit =
      let b : List ℕ = between ++ encoded_all ls in
      let n : List ℕ = pair_bytes (length ls) ++ b in
      let v : List ℕ = pair_bytes version ++ n in
      one_byte x (y ∷ z ∷ v) hx
      (one_byte y (z ∷ v) hy
      (one_byte z v hz
      (both_bytes (pair_bytes version) n (pair_of_bytes version hv)
      (both_bytes (pair_bytes (length ls)) b (pair_of_bytes (length ls) hn)
      (both_bytes between (encoded_all ls) hb (all_encoded_bytes ls d fit))))))
