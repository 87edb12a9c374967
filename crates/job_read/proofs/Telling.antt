-- What an answer tells of the reading.
-- Assumes nothing.
use Prim.Native.Nat.{ℕ}
use native.Mathlib.Omega.{arith}
use mathlib.Core.Path.{◌≡◌, refl, ap}
use mathlib.Core.Bool.{Bool}
use mathlib.Core.List.{List}
use Rattle.job_field.specs.Items.{Reading, refused, accepted}
use Rattle.job_field.specs.Reading.{reading}
use Rattle.job_field.specs.Answer.{number_of, head_said}
use Rattle.job_field.specs.Standing.{Taken}
use Rattle.job_read.specs.Summary.{Summary, refusal, acceptance, told, summary}
use Rattle.job_read.specs.declared.Accepted.{Accepted}
use Rattle.job_read.specs.declared.Refusal.{Refusal}
use Rattle.std.specs.Prelude.{Ok, Err}

pub told-accepted : (job : List ℕ) (a : Accepted) → told (Ok a) ≡ summary (reading job) → Taken job (head_said a.head) a.records a.questions a.room
told-accepted job a e = go (reading job) refl e
  where
    go : (X : Reading) → reading job ≡ X → acceptance (head_said a.head) a.records a.questions a.room ≡ summary X → Taken job (head_said a.head) a.records a.questions a.room
    go (refused n p) i e = let z : ◌≡◌ {A = ℕ} 0 1 = cc in absurd (omega arith)
    go (accepted M is) i e = let same : M ≡ head_said a.head = cc in record { items = is; reads = rw (← same) i; records = cc; questions = cc; needed = rw (← same) (ap room_for e) }
      where
        room_for : Summary → ℕ
        room_for (refusal n p) = 0
        room_for (acceptance n r q m) = m

pub told-refused : (job : List ℕ) (x : Refusal) → told (Err x) ≡ summary (reading job) → reading job ≡ refused (number_of x.fault) x.place
told-refused job x e = go (reading job) refl e
  where
    go : (X : Reading) → reading job ≡ X → refusal (number_of x.fault) x.place ≡ summary X → reading job ≡ refused (number_of x.fault) x.place
    go (refused n q) i e = let a : number_of x.fault ≡ n = cc in let b : x.place ≡ q = cc in rw (a, b) i
    go (accepted M is) i e = let z : ◌≡◌ {A = ℕ} 0 1 = cc in absurd (omega arith)
