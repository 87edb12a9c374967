-- A field that is written as the job's table has it is read as what was meant. Assumes nothing.
use Prim.Native.Nat.{ℕ, suc, ◌+◌, ◌*◌, ◌/◌, ◌%◌, ◌≤◌, ◌<◌}
use native.Mathlib.Omega.{arith}
use mathlib.Core.Path.{◌≡◌, refl, sym, ◌∙◌, ap, ap₂}
use mathlib.Core.Bool.{Bool, true, false}
use mathlib.Core.List.{List, [], ◌∷◌, ◌++◌}
use lib.Dec.{eqb, leb}
use lib.ListN.{length, get_or, length-append}
use Rattle.meaning.specs.Following.{eq, app}
use Rattle.script_terms.specs.Flat.{Item, noted, differing, checking}
use Rattle.script_terms.proofs.Tests.{eqb_yes, eqb_no, leb_yes}
use Rattle.script_meaning.specs.Bytes.{field_of}
use Rattle.job_field.specs.Items as job
use Rattle.job_field.specs.Reading.{byte_at, number_at, Kind, first, record-eq, record-app, note-differ, question-broken, last, Field, header, item, end, kind_later, sheeted_in, kind_at, length_of_body, known, length_at, behind_at, body_at, or_else, field_of_kind, field_standing}
use Rattle.script_written.specs.Written.{item_of}

pub or-else : (b : Bool) (n : ℕ) (f : Field) → b ≡ true → or_else b n f ≡ f
or-else b n f e = rw e

-- Bytes and numbers behind what stands before them.
byte-in : (pre l : List ℕ) (i k : ℕ) → i ≡ length pre + k → get_or (pre ++ l) i 0 ≡ get_or l k 0
byte-in [] l i k e = let q : i ≡ k = omega arith in ap (λ n. get_or l n 0) q
byte-in (x ∷ pre) l i k e = let q : i ≡ suc (length pre + k) = omega arith in ap (λ n. get_or (x ∷ (pre ++ l)) n 0) q ∙ byte-in pre l (length pre + k) k refl

number_in : (pre l : List ℕ) (i k : ℕ) → i ≡ length pre + k → number_at (pre ++ l) i ≡ get_or l k 0 * 256 + get_or l (suc k) 0
number_in pre l i k e = ap₂ (λ x y. x * 256 + y) (byte-in pre l i k e) (byte-in pre l (i + 1) (suc k) (omega arith))

whole : (a : ℕ) → a / 256 * 256 + a % 256 ≡ a
whole a = omega arith

-- A field that is there, of a kind that is known, and of the length of its kind.
pub field-good : (job : List ℕ) (at : ℕ) (k : Kind) → at + (3 + length_of_body k) ≤ length job → kind_at (sheeted_in job) at (byte_at job at) (length_at job at) ≡ k → known k ≡ true → length_at job at ≡ length_of_body k → field_standing job at ≡ body_at job (at + 3) k
unfolding field_standing
field-good job at k h e f g =
    or-else (leb (at + 3) (length job)) 3 (field_of_kind job at (kind_at (sheeted_in job) at (byte_at job at) (length_at job at))) (leb_yes (at + 3) (length job) (omega arith))
    ∙ ap (field_of_kind job at) e
    ∙ or-else (known k) 4 (or_else (eqb (length_at job at) (length_of_body k)) 5 (or_else (leb (behind_at job at) (length job)) 3 (body_at job (at + 3) k))) f
    ∙ or-else (eqb (length_at job at) (length_of_body k)) 5 (or_else (leb (behind_at job at) (length job)) 3 (body_at job (at + 3) k)) (eqb_yes g)
    ∙ or-else (leb (behind_at job at) (length job)) 3 (body_at job (at + 3) k) (leb_yes (behind_at job at) (length job) (let q : length_at job at ≡ length_of_body k = g in omega arith))

later : (at b n : ℕ) → 0 < at → kind_at false at b n ≡ kind_later b
later at b n h = rw (eqb_no {m = at} {n = 0} (λ z. omega arith))

-- A field behind others: what it says, and the place behind it.
pub record Reads (job : List ℕ) (at : ℕ) (f : Field) (size : ℕ) : Type 0 where
  pub says : field_standing job at ≡ f
  pub behind : behind_at job at ≡ at + size

module _ (pre : List ℕ) (at : ℕ) (e : at ≡ length pre) (some : 0 < at) (plain : (l : List ℕ) → sheeted_in (pre ++ l) ≡ false) where
  -- The kind and the length, of what stands at the place.
  front : (kind size : ℕ) (l : List ℕ) (k : Kind) → kind_later kind ≡ k → known k ≡ true → length_of_body k ≡ size → size < 256 → size ≤ length l
      → (f : Field) → (body_at (pre ++ (kind ∷ 0 ∷ size ∷ l)) (at + 3) k ≡ f) → Reads (pre ++ (kind ∷ 0 ∷ size ∷ l)) at f (3 + size)
  front kind size l k i j b s t f q =
      let job : List ℕ = pre ++ (kind ∷ 0 ∷ size ∷ l) in
      let n : length_at job at ≡ size = number_in pre (kind ∷ 0 ∷ size ∷ l) (at + 1) 1 (omega arith) ∙ (let z : 0 * 256 + size ≡ size = omega arith in z) in
      let c : byte_at job at ≡ kind = byte-in pre (kind ∷ 0 ∷ size ∷ l) at 0 (omega arith) in
      let m : length job ≡ length pre + length (kind ∷ 0 ∷ size ∷ l) = length-append pre (kind ∷ 0 ∷ size ∷ l) in
      record {
        says = field-good job at k (omega (arith, m, b)) (ap (λ (x : Bool). kind_at x at (byte_at job at) (length_at job at)) (plain (kind ∷ 0 ∷ size ∷ l)) ∙ later at (byte_at job at) (length_at job at) some ∙ ap kind_later c ∙ i) j (n ∙ sym b) ∙ q;
        behind = omega (arith, n);
      }

  pub end_read : Reads (pre ++ (127 ∷ 0 ∷ 0 ∷ [])) at end 3
  end_read = front 127 0 [] last refl refl refl (omega arith) (omega arith) end refl

  pub item-read : (x : Item) (rest : List ℕ) → Reads (pre ++ (field_of x ++ rest)) at (item (item_of x)) (length (field_of x))
  item-read (noted (eq a b)) rest =
      let l : List ℕ = a / 256 ∷ a % 256 ∷ b / 256 ∷ b % 256 ∷ rest in
      front 1 4 l record-eq refl refl refl (omega arith) (omega arith) _
      (ap₂ (λ x y. item (job.noted (job.line (eq x y) 0))) (number_in pre (1 ∷ 0 ∷ 4 ∷ l) (at + 3) 3 (omega arith) ∙ whole a) (number_in pre (1 ∷ 0 ∷ 4 ∷ l) (at + 3 + 2) 5 (omega arith) ∙ whole b))
  item-read (noted (app a b c)) rest =
      let l : List ℕ = a / 256 ∷ a % 256 ∷ b / 256 ∷ b % 256 ∷ c / 256 ∷ c % 256 ∷ rest in
      let p : number_at (pre ++ (2 ∷ 0 ∷ 6 ∷ l)) (at + 3) ≡ a = number_in pre (2 ∷ 0 ∷ 6 ∷ l) (at + 3) 3 (omega arith) ∙ whole a in
      front 2 6 l record-app refl refl refl (omega arith) (omega arith) _
      (ap (λ x. item (job.noted (job.line (app x (number_at (pre ++ (2 ∷ 0 ∷ 6 ∷ l)) (at + 3 + 2)) (number_at (pre ++ (2 ∷ 0 ∷ 6 ∷ l)) (at + 3 + 4))) 0))) p
      ∙ ap₂ (λ y z. item (job.noted (job.line (app a y z) 0))) (number_in pre (2 ∷ 0 ∷ 6 ∷ l) (at + 3 + 2) 5 (omega arith) ∙ whole b) (number_in pre (2 ∷ 0 ∷ 6 ∷ l) (at + 3 + 4) 7 (omega arith) ∙ whole c))
  item-read (differing a b) rest =
      let l : List ℕ = a / 256 ∷ a % 256 ∷ b / 256 ∷ b % 256 ∷ rest in
      front 5 4 l note-differ refl refl refl (omega arith) (omega arith) _
      (ap₂ (λ x y. item (job.noted (job.differ x y))) (number_in pre (5 ∷ 0 ∷ 4 ∷ l) (at + 3) 3 (omega arith) ∙ whole a) (number_in pre (5 ∷ 0 ∷ 4 ∷ l) (at + 3 + 2) 5 (omega arith) ∙ whole b))
  item-read checking rest = front 6 0 rest question-broken refl refl refl (omega arith) (omega arith) _ refl

-- The header.
pub header_read : (N : ℕ) (l : List ℕ) → Reads (16 ∷ 0 ∷ 2 ∷ N / 256 ∷ N % 256 ∷ l) 0 (header (record { size = N; units = N; sheeted = false })) 5
header_read N l =
    let job : List ℕ = 16 ∷ 0 ∷ 2 ∷ N / 256 ∷ N % 256 ∷ l in
    record {
      says = field-good job 0 first (omega arith) refl refl refl ∙ ap (λ n. header (record { size = n; units = n; sheeted = false })) (whole N);
      behind = refl;
    }
