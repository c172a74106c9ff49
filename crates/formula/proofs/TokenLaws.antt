-- The tokens of a text, as the reader meets them: separators passed over, one token taken, comments left behind.
use mathlib.Core.Path.{◌≡◌, refl, sym, ap, ◌∙◌}
use mathlib.Core.Bool.{Bool, true, false, not}
use mathlib.Core.List.{List, [], ◌∷◌}
use Prim.Native.Nat.{ℕ, suc, ◌+◌, ◌≤◌, ◌<◌}
use native.Mathlib.Nat.{le_refl}
use native.Mathlib.Omega.{arith}
use native.Mathlib.Numerals.{add-one}
use lib.Dec.{eqb}
use lib.Pointwise.{pointwise}
use lib.ListN.{length, get_or, take, drop, drop_of_length-le}
use lib.Seq.{drop-cons}
use borrow.Author.Tests.{ne_eqb}
use Rattle.rules.specs.definitions.Text.{separator, token_byte, lead, Token, tokens, Rest, uncommented, spelled}
use Rattle.theory.specs.laws.Formula.{eqb_comm}
use Rattle.std.proofs.lemmas.Bool.{eqb-true, eqb-false}
use Rattle.std.specs.List.{take_while}
use Rattle.std.proofs.lemmas.List.Sums.{take_while-cons}

-- ---- how many of the first bytes have p
lead_yes : (p : ℕ → Bool) (b : ℕ) (l : List ℕ) → p b ≡ true → lead p (b ∷ l) ≡ suc (lead p l)
unfolding lead
lead_yes p b l e = rw (lead, e)

lead_no : (p : ℕ → Bool) (b : ℕ) (l : List ℕ) → p b ≡ false → lead p (b ∷ l) ≡ 0
unfolding lead
lead_no p b l e = rw (lead, e)

lead_le : (p : ℕ → Bool) (l : List ℕ) → lead p l ≤ length l
unfolding lead
lead_le p [] = omega arith
lead_le p (b ∷ l) = by (p b) refl (lead_le p l)
  where
    by : (x : Bool) → p b ≡ x → lead p l ≤ length l → lead p (b ∷ l) ≤ length (b ∷ l)
    by true e h = rw (lead_yes p b l e) (omega arith)
    by false e h = rw (lead_no p b l e) (omega arith)

-- it is the length of what `take_while` gives
lead_taken : (p : ℕ → Bool) (l : List ℕ) → length (take_while p l) ≡ lead p l
unfolding lead
lead_taken p [] = refl
lead_taken p (b ∷ l) = by (p b) refl (lead_taken p l)
  where
    by : (x : Bool) → p b ≡ x → length (take_while p l) ≡ lead p l → length (take_while p (b ∷ l)) ≡ lead p (b ∷ l)
    by true e h = rw (take_while-cons p b l, e, lead_yes p b l e) (ap suc h)
    by false e h = rw (take_while-cons p b l, e, lead_no p b l e)

-- after those that have p comes none that has it
lead_skip : (p : ℕ → Bool) (l : List ℕ) → lead p (drop (lead p l) l) ≡ 0
unfolding lead
lead_skip p [] = refl
lead_skip p (b ∷ l) = by (p b) refl (lead_skip p l)
  where
    by : (x : Bool) → p b ≡ x → lead p (drop (lead p l) l) ≡ 0 → lead p (drop (lead p (b ∷ l)) (b ∷ l)) ≡ 0
    by true e h = rw (lead_yes p b l e) h
    by false e h = rw (lead_no p b l e) (lead_no p b l e)

-- ---- the tokens after separators, after the rest of a token, and at a token
tokens_space : (inside : Bool) (b : ℕ) (l : List ℕ) (at : ℕ) → separator b ≡ true → tokens inside (b ∷ l) at ≡ tokens false l (suc at)
unfolding tokens
tokens_space inside b l at e = rw (tokens, e)

tokens_more : (b : ℕ) (l : List ℕ) (at : ℕ) → separator b ≡ false → tokens true (b ∷ l) at ≡ tokens true l (suc at)
unfolding tokens
tokens_more b l at e = rw (tokens, e)

tokens_new : (b : ℕ) (l : List ℕ) (at : ℕ) → separator b ≡ false
    → tokens false (b ∷ l) at ≡ record { at = at; bytes = b ∷ take (lead token_byte l) l } ∷ tokens true l (suc at)
unfolding tokens
tokens_new b l at e = rw (tokens, e)

tokens_skip : (l : List ℕ) (at : ℕ) → tokens false l at ≡ tokens false (drop (lead separator l) l) (at + lead separator l)
unfolding lead
tokens_skip [] at = let e : at ≡ at + 0 = omega arith in ap (tokens false []) e
tokens_skip (b ∷ l) at = by (separator b) refl (tokens_skip l (suc at))
  where
    by : (x : Bool) → separator b ≡ x → tokens false l (suc at) ≡ tokens false (drop (lead separator l) l) (suc at + lead separator l)
        → tokens false (b ∷ l) at ≡ tokens false (drop (lead separator (b ∷ l)) (b ∷ l)) (at + lead separator (b ∷ l))
    by true e h =
        let z : suc at + lead separator l ≡ at + suc (lead separator l) = omega arith in
        rw (lead_yes separator b l e) (tokens_space false b l at e ∙ h ∙ ap (tokens false (drop (lead separator l) l)) z)
    by false e h = let z : at ≡ at + 0 = omega arith in rw (lead_no separator b l e) (ap (tokens false (b ∷ l)) z)

tokens_rest : (l : List ℕ) (at : ℕ) → tokens true l at ≡ tokens false (drop (lead token_byte l) l) (at + lead token_byte l)
unfolding lead tokens
tokens_rest [] at = refl
tokens_rest (b ∷ l) at = by (separator b) refl (tokens_rest l (suc at))
  where
    by : (x : Bool) → separator b ≡ x → tokens true l (suc at) ≡ tokens false (drop (lead token_byte l) l) (suc at + lead token_byte l)
        → tokens true (b ∷ l) at ≡ tokens false (drop (lead token_byte (b ∷ l)) (b ∷ l)) (at + lead token_byte (b ∷ l))
    by true e h =
        let z : at ≡ at + 0 = omega arith in
        rw (lead_no token_byte b l (ap not e)) (tokens_space true b l at e ∙ sym (tokens_space false b l at e) ∙ ap (tokens false (b ∷ l)) z)
    by false e h =
        let z : suc at + lead token_byte l ≡ at + suc (lead token_byte l) = omega arith in
        rw (lead_yes token_byte b l (ap not e)) (tokens_more b l at e ∙ h ∙ ap (tokens false (drop (lead token_byte l) l)) z)

tokens_first : (l : List ℕ) (at : ℕ) → 0 < length l → lead separator l ≡ 0
    → tokens false l at ≡ record { at = at; bytes = take (lead token_byte l) l } ∷ tokens false (drop (lead token_byte l) l) (at + lead token_byte l)
unfolding lead
tokens_first [] at h z = absurd (omega arith)
tokens_first (b ∷ l) at h z = by (separator b) refl
  where
    by : (x : Bool) → separator b ≡ x
        → tokens false (b ∷ l) at ≡ record { at = at; bytes = take (lead token_byte (b ∷ l)) (b ∷ l) } ∷ tokens false (drop (lead token_byte (b ∷ l)) (b ∷ l)) (at + lead token_byte (b ∷ l))
    by true e = absurd (omega (arith, lead_yes separator b l e, z))
    by false e =
        let y : suc at + lead token_byte l ≡ at + suc (lead token_byte l) = omega arith in
        rw (lead_yes token_byte b l (ap not e)) (tokens_new b l at e ∙ ap (λ (ts : List Token). record { at = at; bytes = b ∷ take (lead token_byte l) l } ∷ ts)
        (tokens_rest l (suc at) ∙ ap (tokens false (drop (lead token_byte l) l)) y))

length_zero : (l : List ℕ) → length l ≡ 0 → l ≡ []
length_zero [] e = refl
length_zero (b ∷ l) e = absurd (omega arith)

-- ---- the next token, and what is left past it
-- no token past the separators
pub next_none : (l bytes : List ℕ) (at k : ℕ) → k ≡ length (take_while separator l) → bytes ≡ drop k l → eqb (length bytes) 0 ≡ true → tokens false l at ≡ []
unfolding tokens
next_none l bytes at k e f h =
    let none : drop (lead separator l) l ≡ [] = rw (← lead_taken separator l, ← e, ← f) (length_zero bytes (eqb-true (length bytes) 0 h)) in
    tokens_skip l at ∙ rw none

pub next_some : (l spaces bytes word rest : List ℕ) (at k m : ℕ) → k ≡ length (take_while separator l) → length spaces ≡ k → bytes ≡ drop k l → eqb (length bytes) 0 ≡ false
    → m ≡ length (take_while token_byte bytes) → word ≡ take m bytes → length word ≡ m → rest ≡ drop m bytes
    → tokens false l at ≡ record { at = at + length spaces; bytes = word } ∷ tokens false rest (at + length spaces + length word)
next_some l spaces bytes word rest at k m e ls f h g w lw r =
    let past : k ≡ lead separator l = e ∙ lead_taken separator l in
    let long : m ≡ lead token_byte bytes = g ∙ lead_taken token_byte bytes in
    let here : bytes ≡ drop (lead separator l) l = f ∙ ap (λ (i : ℕ). drop i l) past in
    let first = tokens_first bytes (at + k) (omega (arith, eqb-false (length bytes) 0 h)) (rw here (lead_skip separator l)) in
    tokens_skip l at
    ∙ rw (← past, ← f) (first ∙ rw (lw, ls, w, r, long))

-- ---- comments, byte by byte
-- what is left of the text at a place, inside a comment or not
abbrev pub rest_at : Bool → List ℕ → ℕ → Rest
rest_at inside s at = uncommented inside (drop at s) at

module _ (s : List ℕ) (i : ℕ) (h : i < length s) where
  -- inside a comment, up to its line feed
  pub comment_on : rest_at (not (eqb (get_or s i 0) 10)) s (i + 1) ≡ rest_at true s i
  unfolding uncommented
  comment_on = rw (add-one i, drop-cons s i 0 h, uncommented)

  pub comment_begins : get_or s i 0 ≡ 99 → rest_at true s (i + 1) ≡ rest_at false s i
  unfolding uncommented
  comment_begins e = rw (add-one i, drop-cons s i 0 h, uncommented, ap separator e, ap (λ (b : ℕ). eqb b 99) e)

  pub separator_passed : separator (get_or s i 0) ≡ true → rest_at false s (i + 1) ≡ rest_at false s i
  unfolding uncommented
  separator_passed e = rw (add-one i, drop-cons s i 0 h, uncommented, e)

  pub comments_over : separator (get_or s i 0) ≡ false → (get_or s i 0 ≡ 99 → ⊥) → record { at = i; bytes = drop i s } ≡ rest_at false s i
  unfolding uncommented
  comments_over n e = rw (drop-cons s i 0 h, uncommented, n, ne_eqb (get_or s i 0) 99 e)

-- where it is known whether a place stands inside a comment
module _ (s : List ℕ) (i : ℕ) (r : Rest) (inside now : Bool) (e : inside ≡ now) (h : rest_at inside s i ≡ r) where
  pub rest_known : rest_at now s i ≡ r
  rest_known = ap (λ (t : Bool). rest_at t s i) (sym e) ∙ h

  -- and one byte more leaves the same
  pub rest_on : (next then : Bool) → next ≡ then → rest_at then s (i + 1) ≡ rest_at now s i → rest_at next s (i + 1) ≡ r
  rest_on next then f g = ap (λ (t : Bool). rest_at t s (i + 1)) f ∙ g ∙ rest_known

-- at the text's end nothing is left
pub comments_end : (s : List ℕ) (i : ℕ) (r : Rest) (inside : Bool) → i ≡ length s → rest_at inside s i ≡ r → record { at = length s; bytes = drop (length s) s } ≡ r
unfolding uncommented
comments_end s i r inside e h =
    let none : drop (length s) s ≡ [] = drop_of_length-le s (le_refl (length s)) in
    rw none (rw (e, none) at h)

-- ---- a token that is to be a certain word
pub spelled_same : (w l : List ℕ) → pointwise eqb l w ≡ spelled w l
unfolding spelled
spelled_same [] [] = refl
spelled_same [] (c ∷ l) = refl
spelled_same (b ∷ w) [] = refl
spelled_same (b ∷ w) (c ∷ l) = rw (eqb_comm c b, spelled_same w l)
