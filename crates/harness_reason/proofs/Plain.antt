-- The records of a job without kind 02 are equations, and so they are where they stand in the work table. Assumes nothing.
use Prim.Native.Nat.{ℕ, zero, suc, ◌<◌}
use native.Mathlib.Omega.{arith}
use mathlib.Core.Path.{◌≡◌, refl, sym, ◌∙◌, ap}
use mathlib.Core.Bool.{Bool, true, false, cond}
use mathlib.Core.List.{List, [], ◌∷◌}
use lib.Dec.{eqb}
use lib.ListN.{length, get_or}
use Rattle.meaning.specs.Following.{Rec, eq, app}
use Rattle.job_field.specs.Items.{Head, line, differ, Item, noted, posed, records_of}
use Rattle.job_field.specs.Reading.{items_in}
use Rattle.table.specs.Map.{left_of, right_of, result_of, rec_at, records_in}
use Rattle.table.specs.Places.{EQUATION}
use Rattle.table.proofs.Frame.{length-gather, get_or-gather}
use Rattle.pairs.specs.Breaking.{Breaking}
use Rattle.harness_read.specs.Profile.{Equations}
use Rattle.harness_reason.specs.Explaining.{Plain}

-- A record that is an equation.
abbrev IsEq : Rec → Type 0
IsEq (eq a b) = Unit {0}
IsEq (app a b c) = ⊥

record_is : (is : List Item) → Equations is → (k : ℕ) → k < length (records_of is) → IsEq (get_or (records_of is) k (eq 0 0))
record_is [] e k l = absurd (omega arith)
record_is (noted (line (eq a b) h) ∷ is) e zero l = tt
record_is (noted (line (eq a b) h) ∷ is) e (suc k) l = record_is is e k (omega arith)
record_is (noted (line (app a b c) h) ∷ is) e k l = absurd e
record_is (noted (differ a b) ∷ is) e k l = record_is is e k l
record_is (posed q ∷ is) e k l = record_is is e k l

chosen : (t : Bool) (a b c : ℕ) → IsEq (cond t (eq a b) (app a b c)) → cond t (eq a b) (app a b c) ≡ eq a b
chosen true a b c i = refl
chosen false a b c i = absurd i

pub plain_in : (len : ℕ) (w : List ℕ) (is : List Item) → records_in len w ≡ records_of is → Equations is → Plain len w
plain_in len w is r e k l =
    let g : get_or (records_of is) k (eq 0 0) ≡ rec_at w (suc k) = ap (λ (x : List Rec). get_or x k (eq 0 0)) (sym r) ∙ get_or-gather (λ j. rec_at w (suc j)) len k (eq 0 0) l in
    let n : length (records_of is) ≡ len = ap length (sym r) ∙ length-gather (λ j. rec_at w (suc j)) len in
    chosen (eqb (result_of w (suc k)) EQUATION) (left_of w (suc k)) (right_of w (suc k)) (result_of w (suc k)) (rw g at (record_is is e k (omega arith)))

-- So at every question.
pub plain_here : {job w : List ℕ} {H : Head} {len joins before differs : ℕ} → Breaking job w H len joins before differs → Equations (items_in job) → Plain len w
plain_here {job} {w} {len = len} B e = plain_in len w (items_in job) B.records e
