-- A line is put number by number: what was opened goes on with the numbers that follow, and its end closes it.
-- Assumes nothing.
use Prim.Native.Nat.{ℕ}
use mathlib.Core.Path.{◌≡◌, refl}
use mathlib.Core.List.{List, [], ◌∷◌, ◌++◌, append_assoc, append-nil}
use borrow.Author.Tests.{eq-eqb, ne_eqb}
use Rattle.text_line.specs.Digits.{digits}
use Rattle.text_line.specs.Line.{parted, line, ask_line}
use Rattle.text_line.specs.Put.{Put}
use Rattle.text_line.proofs.Puts.{put_then, put_as}

pub parted-append : (a b : List ℕ) → parted (a ++ b) ≡ parted a ++ parted b
unfolding parted
parted-append [] b = refl
parted-append (n ∷ a) b = rw (parted-append a b, append_assoc)

pub parted-one : (n : ℕ) → 32 ∷ digits n ≡ parted (n ∷ [])
unfolding parted
parted-one n = simp append-nil

pub put-more : (ns ms : List ℕ) {letter : ℕ} {room mid room' : List ℕ} {at m next : ℕ} → Put (letter ∷ parted ns) room at mid m → Put (parted ms) mid m room' next → Put (letter ∷ parted (ns ++ ms)) room at room' next
put-more ns ms begun p = put_as (rw parted-append) (put_then begun p)

pub put_ended : (ns : List ℕ) {letter : ℕ} {room mid room' : List ℕ} {at m next : ℕ} → Put (letter ∷ parted ns) room at mid m → Put (10 ∷ []) mid m room' next → Put (line letter ns) room at room' next
unfolding line
put_ended ns begun p = put_then begun p

pub ask_line-same : (s t l m : ℕ) → l ≡ m → line 83 (s ∷ t ∷ l ∷ []) ≡ ask_line s t l m
unfolding ask_line
ask_line-same s t l m e = rw (eq-eqb l m e)

pub ask_line-apart : (s t l m : ℕ) → (l ≡ m → ⊥) → line 68 (s ∷ t ∷ l ∷ m ∷ []) ≡ ask_line s t l m
unfolding ask_line
ask_line-apart s t l m e = rw (ne_eqb l m e)
