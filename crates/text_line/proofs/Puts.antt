-- A text that is put after another is put as one. Stores past the room's end store nothing, so that any place past it serves as well
-- as the first.
-- Assumes nothing.
use Prim.Native.Nat.{ℕ, suc, ◌+◌, ◌≤◌, min}
use native.Mathlib.Omega.{arith}
use native.Mathlib.Decide.{dec_le}
use mathlib.Core.Path.{◌≡◌, refl, sym, ◌∙◌, subst}
use mathlib.Core.List.{List, [], ◌∷◌, ◌++◌, append_assoc, append-nil}
use lib.ListN.{length, set, length-append}
use lib.Seq.{sets, length-sets, set_out}
use Rattle.text_line.specs.Put.{Put, Half}

pub sets-append : (room : List ℕ) (at : ℕ) (s t : List ℕ) → sets room at (s ++ t) ≡ sets (sets room at s) (at + length s) t
sets-append room at [] t = let e : at + 0 ≡ at = omega arith in rw e
sets-append room at (a ∷ s) t =
    let e : at + suc (length s) ≡ suc at + length s = omega arith in
    rw e (sets-append (set room at a) (suc at) s t)

pub sets-past : (room : List ℕ) (at : ℕ) (text : List ℕ) → length room ≤ at → sets room at text ≡ room
sets-past room at [] h = refl
sets-past room at (a ∷ text) h = rw (set_out room at a h) (sets-past room (suc at) text (omega arith))

sets-min : (room : List ℕ) (at : ℕ) (text : List ℕ) → sets room (min at (length room + 1)) text ≡ sets room at text
sets-min room at text = go (dec_le at (length room))
  where
    go : Dec (at ≤ length room) → sets room (min at (length room + 1)) text ≡ sets room at text
    go (yes h) = let e : min at (length room + 1) ≡ at = omega arith in rw e
    go (no h) = sets-past room (min at (length room + 1)) text (omega arith) ∙ sym (sets-past room at text (omega arith))

pub put-length : {s room room' : List ℕ} {at next : ℕ} → Put s room at room' next → length room' ≡ length room
put-length {s} {room} {room'} {at} p = rw p.bytes (length-sets room at s)

pub put_then : {s t room mid room' : List ℕ} {at m next : ℕ} → Put s room at mid m → Put t mid m room' next → Put (s ++ t) room at room' next
put_then {s} {t} {room} {mid} {room'} {at} {m} {next} p q = record {
  bytes =
      let e : sets mid m t ≡ sets mid (at + length s) t = rw (p.place, ← put-length p) (sets-min mid (at + length s) t) in
      q.bytes ∙ e ∙ rw (p.bytes, ← sets-append);
  place = omega (arith, p.place, q.place, put-length p, length-append s t);
}

-- What is put may be written in another way.
pub put_as : {s t room room' : List ℕ} {at next : ℕ} → s ≡ t → Put s room at room' next → Put t room at room' next
put_as {s} {t} {room} {room'} {at} {next} e p = subst (λ (x : List ℕ). Put x room at room' next) e p

-- A text is put in parts: nothing of it, then more and more, then all of it.
pub half-none : (text room : List ℕ) (at : ℕ) → at ≤ length room + 1 → Half text text room at room at
half-none text room at h = record { done = []; put = record { bytes = refl; place = omega arith }; left = refl }

pub half-more : {text s rest room mid room' : List ℕ} {at m next : ℕ} → Half text (s ++ rest) room at mid m → Put s mid m room' next → Half text rest room at room' next
half-more {text} {s} {rest} h p = record { done = h.done ++ s; put = put_then h.put p; left = append_assoc h.done s rest ∙ h.left }

pub half-done : {text room room' : List ℕ} {at next : ℕ} → Half text [] room at room' next → Put text room at room' next
half-done h = put_as (sym (append-nil h.done) ∙ h.left) h.put

pub half-as : {text s t room room' : List ℕ} {at next : ℕ} → s ≡ t → Half text s room at room' next → Half text t room at room' next
half-as {text} {s} {t} {room} {room'} {at} {next} e h = subst (λ (x : List ℕ). Half text x room at room' next) e h

-- The next place is never further than one past the room.
pub put-place : {s room room' : List ℕ} {at next : ℕ} → Put s room at room' next → next ≤ length room' + 1
put-place p = omega (arith, p.place, put-length p)

pub put-nothing : (room : List ℕ) (at : ℕ) → at ≤ length room + 1 → Put [] room at room at
put-nothing room at h = record { bytes = refl; place = omega arith }
