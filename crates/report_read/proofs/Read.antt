-- Bytes that stand at a place can be cut and joined, and two pieces of one length that stand there are one.
-- Assumes nothing.
use Prim.Native.Nat.{ℕ, suc, ◌+◌, ◌-◌, ◌≤◌, ◌<◌}
use native.Mathlib.Omega.{arith}
use native.Mathlib.Numerals.{add-one}
use mathlib.Core.Path.{◌≡◌, refl, sym, ◌∙◌, ap, subst}
use mathlib.Core.List.{List, [], ◌∷◌, ◌++◌, append_assoc}
use lib.ListN.{length, take, drop, get_or, length-append, length-drop, take-append-drop}
use lib.Seq.{drop-cons, drop-drop, drop-append_seam, length-take-le}
use Rattle.job_field.specs.Reading.{number_at}
use Rattle.report.specs.Report.{two, numbers, front, field}
use Rattle.report_read.specs.Read.{Holds, FrontAt, whole, none}
use Rattle.std.specs.Prelude.{Some, None}
use Rattle.report.proofs.Bytes.{two-of, two-one, append-one, length_two, length-numbers, length-field}

module _ (report : List ℕ) (at : ℕ) where
  -- Whatever stands before some rest stands before the rest of the report.
  pub holds-rest : (f rest : List ℕ) → drop at report ≡ f ++ rest → Holds report at f
  holds-rest f rest e =
      let r : drop (at + length f) report ≡ rest = sym (drop-drop (length f) at report) ∙ ap (λ (l : List ℕ). drop (length f) l) e ∙ drop-append_seam f rest in
      e ∙ ap (λ (l : List ℕ). f ++ l) (sym r)

  pub holds-none : Holds report at []
  holds-none = let e : at + 0 ≡ at = omega arith in rw e

  pub holds-room : (f : List ℕ) → at ≤ length report → Holds report at f → at + length f ≤ length report
  holds-room f l h =
      let a : length report - at ≡ length f + length (drop (at + length f) report) = sym (length-drop at report) ∙ ap length h ∙ length-append f (drop (at + length f) report) in
      omega arith

  pub holds-one : (f g : List ℕ) → length f ≡ length g → Holds report at f → Holds report at g → f ≡ g
  holds-one f g l h k = (append-one f g (drop (at + length f) report) (drop (at + length g) report) l (sym h ∙ k)).0

  -- Two pieces, one behind the other.
  pub holds-front : (f g : List ℕ) → Holds report at (f ++ g) → Holds report at f
  holds-front f g h = holds-rest f (g ++ drop (at + length (f ++ g)) report) (h ∙ append_assoc f g (drop (at + length (f ++ g)) report))

  pub holds-behind : (f g : List ℕ) → Holds report at (f ++ g) → Holds report (at + length f) g
  holds-behind f g h =
      let e : at + length (f ++ g) ≡ at + length f + length g = omega (arith, length-append f g) in
      (append-one f f (drop (at + length f) report) (g ++ drop (at + length f + length g) report) refl (sym (holds-front f g h) ∙ h ∙ append_assoc f g (drop (at + length (f ++ g)) report) ∙ ap (λ (n : ℕ). f ++ (g ++ drop n report)) e)).1

  pub holds-both : (f g : List ℕ) → Holds report at f → Holds report (at + length f) g → Holds report at (f ++ g)
  holds-both f g h k = holds-rest (f ++ g) (drop (at + length f + length g) report) (h ∙ ap (λ (l : List ℕ). f ++ l) k ∙ sym (append_assoc f g (drop (at + length f + length g) report)))

  -- One byte, and a number's two.
  pub holds-byte : at < length report → Holds report at (get_or report at 0 ∷ [])
  holds-byte l = rw add-one (drop-cons report at 0 l)

  pub byte-held : (b : ℕ) → at < length report → Holds report at (b ∷ []) → get_or report at 0 ≡ b
  byte-held b l h = let e = holds-one (get_or report at 0 ∷ []) (b ∷ []) refl (holds-byte l) h in cc

  pub number-held : (m n : ℕ) → Holds report at (two m) → Holds report at (two n) → m ≡ n
  number-held m n h k = two-one m n (holds-one (two m) (two n) (length_two m ∙ sym (length_two n)) h k)

  pub holds-number : at + 2 ≤ length report → get_or report (at + 1) 0 < 256 → Holds report at (two (number_at report at))
  holds-number l b = rw (two-of (get_or report at 0) (get_or report (at + 1) 0) b) (holds-rest (get_or report at 0 ∷ get_or report (at + 1) 0 ∷ []) (drop (suc (suc at)) report) (drop-cons report at 0 (omega arith) ∙ ap (λ (l : List ℕ). get_or report at 0 ∷ l) (rw add-one (drop-cons report (suc at) 0 (omega arith)))))

  -- Bytes that are there stand there.
  pub holds-part : (n : ℕ) → at + n ≤ length report → Holds report at (take n (drop at report)) × (length (take n (drop at report)) ≡ n)
  holds-part n l = (
    holds-rest (take n (drop at report)) (drop n (drop at report)) (sym (take-append-drop n (drop at report))),
    length-take-le n (drop at report) (omega (arith, length-drop at report)),
  )

module _ (report : List ℕ) (at : ℕ) where
  -- A field is its kind, the number of bytes in its body, and the body.
  pub front-kind : (kind : ℕ) (body : List ℕ) → at < length report → Holds report at (field kind body) → get_or report at 0 ≡ kind
  unfolding field front
  front-kind kind body l h = byte-held report at kind l (holds-front report at (kind ∷ []) (two (length body) ++ body) h)

  pub front-size : (kind : ℕ) (body : List ℕ) → Holds report at (field kind body) → Holds report (at + 1) (two (length body))
  unfolding field front
  front-size kind body h = holds-front report (at + 1) (two (length body)) body (holds-behind report at (kind ∷ []) (two (length body) ++ body) h)

  pub field-body : (kind : ℕ) (body : List ℕ) → Holds report at (field kind body) → Holds report (at + 3) body
  unfolding field front two
  field-body kind body h = holds-behind report at (front kind (length body)) body h

  pub holds-field : (body : List ℕ) → at < length report → Holds report (at + 1) (two (length body)) → Holds report (at + 3) body → Holds report at (field (get_or report at 0) body)
  unfolding field front two
  holds-field body l h k = holds-both report at (front (get_or report at 0) (length body)) body (holds-both report at (get_or report at 0 ∷ []) (two (length body)) (holds-byte report at l) h) k

  pub field_room : (kind : ℕ) (body : List ℕ) → at ≤ length report → Holds report at (field kind body) → at + 3 + length body ≤ length report
  field_room kind body l h = omega (arith, holds-room report at (field kind body) l h, length-field kind body)

  -- Two numbers.
  pub pair-first : (a b : ℕ) → Holds report at (numbers (a ∷ b ∷ [])) → Holds report at (two a)
  unfolding numbers two
  pair-first a b h = holds-front report at (two a) (two b) h

  pub pair-second : (a b : ℕ) → Holds report at (numbers (a ∷ b ∷ [])) → Holds report (at + 2) (two b)
  unfolding numbers two
  pair-second a b h = holds-behind report at (two a) (two b) h

  pub holds-pair : (a b : ℕ) → Holds report at (two a) → Holds report (at + 2) (two b) → Holds report at (numbers (a ∷ b ∷ []))
  unfolding numbers two
  holds-pair a b h k = holds-both report at (two a) (two b) h k

module _ (report : List ℕ) (at : ℕ) where
  -- A field of two numbers, from its parts and back.
  pub holds-pair-field : (kind a b : ℕ) → at < length report → get_or report at 0 ≡ kind → Holds report (at + 1) (two 4) → Holds report (at + 3) (two a) → Holds report (at + 5) (two b)
      → Holds report at (field kind (numbers (a ∷ b ∷ [])))
  holds-pair-field kind a b l k s h g =
      let n : length (numbers (a ∷ b ∷ [])) ≡ 4 = length-numbers (a ∷ b ∷ []) in
      let e : at + 3 + 2 ≡ at + 5 = omega arith in
      subst (λ (x : ℕ). Holds report at (field x (numbers (a ∷ b ∷ [])))) k (holds-field report at (numbers (a ∷ b ∷ [])) l (rw n s) (holds-pair report (at + 3) a b h (rw e g)))

  pub pair_size : (kind a b : ℕ) → Holds report at (field kind (numbers (a ∷ b ∷ []))) → Holds report (at + 1) (two 4)
  pair_size kind a b h = subst (λ (n : ℕ). Holds report (at + 1) (two n)) (length-numbers (a ∷ b ∷ [])) (front-size report at kind (numbers (a ∷ b ∷ [])) h)

  pub pair-last : (kind a b : ℕ) → Holds report at (field kind (numbers (a ∷ b ∷ []))) → Holds report (at + 5) (two b)
  pair-last kind a b h = let e : at + 3 + 2 ≡ at + 5 = omega arith in rw e at (pair-second report (at + 3) a b (field-body report at kind (numbers (a ∷ b ∷ [])) h))

  -- What the three bytes at the place and the report's length say of the front there.
  pub front-missing : at ≤ length report → length report < at + 3 → FrontAt report at None
  front-missing l m = none (λ kind body h. omega (arith, field_room report at kind body l h))

  pub front_cut : (n : ℕ) → at ≤ length report → Holds report (at + 1) (two n) → length report < at + 3 + n → FrontAt report at None
  front_cut n l s m = none (λ kind body h. omega (arith, field_room report at kind body l h, number-held report (at + 1) n (length body) s (front-size report at kind body h)))

  pub front-whole : (n : ℕ) → at + 3 + n ≤ length report → Holds report (at + 1) (two n) → FrontAt report at (Some (record { kind = get_or report at 0; size = n }))
  front-whole n l s =
      let p = holds-part report (at + 3) n l in
      let body = take n (drop (at + 3) report) in
      let e : length body ≡ n = p.1 in
      subst (λ (m : ℕ). FrontAt report at (Some (record { kind = get_or report at 0; size = m }))) e (whole body (holds-field report at body (omega arith) (rw e s) p.0))
