-- Laws of what is put behind a place of a buffer, and of decimal numbers.
use mathlib.Core.Path.{◌≡◌, refl, sym, ◌∙◌, ap, subst}
use mathlib.Core.List.{List, [], ◌∷◌, ◌++◌, append_assoc, append-nil}
use mathlib.Core.Bool.{Bool, true, false}
use Prim.Native.Nat.{ℕ, zero, suc, ◌+◌, ◌-◌, ◌/◌, ◌%◌, ◌^◌, ◌≤◌, ◌<◌}
use native.Mathlib.Omega.{arith}
use mathlib.Core.Logic.{by_cases}
use native.Mathlib.Decide.{dec_lt}
use lib.Dec.{ltb}
use lib.ListN.{length, take, drop, length-append}
use lib.Seq.{drop-drop}
use native.Mathlib.Nat.{pow-suc}
use borrow.Author.Tests.{lt-ltb, le-ltb, ltb-false}
use Rattle.rules.specs.definitions.Report.{digits_before, decimal}
use Rattle.report.specs.declared.text.Out.{Out}
use Rattle.report.specs.Written.{RoomFor, Appended}

-- nothing is appended where nothing changes
pub nothing : (o : Out) → Appended 0 o o []
nothing o = record { within = omega arith; next_is = omega arith; written = sym (append-nil (take o.at o.bytes.now)); rest = refl; same_length = refl; same_buffer = refl }

-- the same text, said otherwise
pub retext : {most : ℕ} {before after : Out} {t u : List ℕ} → t ≡ u → Appended most before after t → Appended most before after u
retext {most} {before} {after} e A = subst (λ (x : List ℕ). Appended most before after x) e A

-- the same text under another bound
bounded : {few most : ℕ} {before after : Out} {t : List ℕ} → length t ≤ most → Appended few before after t → Appended most before after t
bounded h A = record { within = h; next_is = A.next_is; written = A.written; rest = A.rest; same_length = A.same_length; same_buffer = A.same_buffer }

-- a text of few bytes is one of at most more
pub wider : {few most : ℕ} {before after : Out} {t : List ℕ} → few ≤ most → Appended few before after t → Appended most before after t
wider h A = bounded (omega (arith, A.within)) A

-- what is past a place stays past a later one
further : (a b : List ℕ) (m n : ℕ) → m ≤ n → drop m a ≡ drop m b → drop n a ≡ drop n b
further a b m n h e =
    let z : m + (n - m) ≡ n = omega arith in
    ap (λ (k : ℕ). drop k a) (sym z) ∙ sym (drop-drop (n - m) m a) ∙ ap (drop (n - m)) e ∙ drop-drop (n - m) m b ∙ ap (λ (k : ℕ). drop k b) z

-- a text and then another
pub then : {k m : ℕ} {a b d : Out} {t u : List ℕ} → Appended k a b t → Appended m b d u → Appended (k + m) a d (t ++ u)
then {k} {m} {a} {b} {d} {t} {u} A B = record {
  within = omega (arith, A.within, B.within, length-append t u);
  next_is = omega (arith, A.next_is, B.next_is, length-append t u);
  written = B.written ∙ ap (λ (l : List ℕ). l ++ u) A.written ∙ append_assoc (take a.at a.bytes.now) t u;
  rest = B.rest ∙ further b.bytes.now a.bytes.now b.at d.at (omega (arith, B.next_is)) A.rest;
  same_length = B.same_length ∙ A.same_length;
  same_buffer = B.same_buffer ∙ A.same_buffer;
}

-- ---- decimal numbers
-- one of two lists
abbrev pick : Bool → List ℕ → List ℕ → List ℕ
pick b x y = elim b [ true ↦ x | false ↦ y ]

-- one digit, and the digits before it
step : (f n : ℕ) (l : List ℕ) → digits_before (suc f) n l ≡ pick (ltb n 10) ((48 + n) ∷ l) (digits_before f (n / 10) ((48 + n % 10) ∷ l))
unfolding digits_before
step f n l = refl

-- the digits stand in front of what follows, however many more are allowed than there are
in_front : (f g n : ℕ) (l r : List ℕ) → n < f → n < g → digits_before f n (l ++ r) ≡ digits_before g n l ++ r
unfolding digits_before
in_front zero g n l r h k = absurd (omega arith)
in_front (suc f) zero n l r h k = absurd (omega arith)
in_front (suc f) (suc g) n l r h k = by (ltb n 10) refl (λ q m. in_front f g (n / 10) ((48 + n % 10) ∷ l) r q m)
  where
    by : (b : Bool) → ltb n 10 ≡ b
        → (n / 10 < f → n / 10 < g → digits_before f (n / 10) (((48 + n % 10) ∷ l) ++ r) ≡ digits_before g (n / 10) ((48 + n % 10) ∷ l) ++ r)
        → pick b ((48 + n) ∷ (l ++ r)) (digits_before f (n / 10) ((48 + n % 10) ∷ (l ++ r))) ≡ pick b ((48 + n) ∷ l) (digits_before g (n / 10) ((48 + n % 10) ∷ l)) ++ r
    by true e ih = refl
    by false e ih = ih (omega (arith, ltb-false n 10 e)) (omega (arith, ltb-false n 10 e))

-- a number below 10 is one digit
decimal_few : (n : ℕ) → n < 10 → decimal n ≡ (48 + n % 10) ∷ []
unfolding decimal
decimal_few n h =
    let e : n % 10 ≡ n = omega arith in
    step n n [] ∙ ap (λ (b : Bool). pick b ((48 + n) ∷ []) (digits_before n (n / 10) ((48 + n % 10) ∷ []))) (lt-ltb n 10 h) ∙ ap (λ (m : ℕ). (48 + m) ∷ []) (sym e)

-- another is its tenth with a digit behind
decimal_more : (n : ℕ) → 10 ≤ n → decimal n ≡ decimal (n / 10) ++ ((48 + n % 10) ∷ [])
unfolding decimal
decimal_more n h =
    step n n []
    ∙ ap (λ (b : Bool). pick b ((48 + n) ∷ []) (digits_before n (n / 10) ((48 + n % 10) ∷ []))) (le-ltb n 10 h)
    ∙ in_front n (suc (n / 10)) (n / 10) [] ((48 + n % 10) ∷ []) (omega arith) (omega arith)

-- a number below 10 to the b + 1 has at most b + 1 digits
length_below : (b n : ℕ) → n < 10 ^ suc b → length (decimal n) ≤ suc b
length_below zero n h = omega (arith, ap length (decimal_few n (omega arith)))
length_below (suc b) n h = by_cases (dec_lt n 10) (λ l. omega (arith, ap length (decimal_few n l))) (λ l. more (omega arith) (length_below b (n / 10)))
  where
    more : 10 ≤ n → (n / 10 < 10 ^ suc b → length (decimal (n / 10)) ≤ suc b) → length (decimal n) ≤ suc (suc b)
    more l ih =
        omega (
          arith,
          ap length (decimal_more n l),
          length-append (decimal (n / 10)) ((48 + n % 10) ∷ []),
          ih (omega (arith, pow-suc 10 (suc b))),
        )

-- a number of 32 bits has at most ten
length_decimal : (n : ℕ) → n < 4294967296 → length (decimal n) ≤ 10
length_decimal n h = length_below 9 n (omega arith)

-- the last digit is put, behind none
pub digit_first : {before after : Out} (n : ℕ) → n < 10 → Appended 1 before after ((48 + n % 10) ∷ []) → Appended 10 before after (decimal n)
digit_first n h A = wider (omega arith) (retext (sym (decimal_few n h)) A)

-- behind a tenth's digits there is room for the last
pub digit_fits : {before mid : Out} (n : ℕ) → n < 4294967296 → 10 ≤ n → RoomFor 10 before → Appended 10 before mid (decimal (n / 10)) → RoomFor 1 mid
digit_fits n l h r A =
    omega (arith, A.next_is, A.same_length, length_decimal n l, ap length (decimal_more n h), length-append (decimal (n / 10)) ((48 + n % 10) ∷ []))

-- and it is put there
pub digit_last : {before mid after : Out} (n : ℕ) → n < 4294967296 → 10 ≤ n → Appended 10 before mid (decimal (n / 10)) → Appended 1 mid after ((48 + n % 10) ∷ [])
    → Appended 10 before after (decimal n)
digit_last n l h A B = bounded (length_decimal n l) (retext (sym (decimal_more n h)) (then A B))
