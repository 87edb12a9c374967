-- Each claim is decided by the closure on paper, so a whole table is one test, which the check computes: to true for the starred cases, and, with each decision turned
-- round, for their twins. A claim that is changed makes its test compute to false. Assumes nothing.
use mathlib.Core.Bool.{Bool, true, false, ◌&&◌}
use mathlib.Core.Logic.Dec
use mathlib.Core.List.{List, [], ◌∷◌}
use lib.Dec.{T}
use lib.ListN.{length}
use Prim.Native.Nat.{ℕ}
use Rattle.meaning.specs.Following.{Rec}
use Rattle.meaning.specs.Totals.{Idle}
use Rattle.meaning.specs.Cases.{Claim, follow, apart, leader, led, reason, unsound, classes, idle, Says, Case, EachClaim, EachCase, AllHold, NoneHold, stars, twins}
use Rattle.meaning.proofs.Decide.{dec_up_to, dec_reason, dec_classes, dec_count, dec_idle}
use Rattle.meaning.proofs.Units.{dec_leader}

unfoldable pub dec_says : (N : ℕ) (rs : List Rec) (R : ℕ) (c : Claim) → Dec (Says N rs R c)
unfolding dec_up_to Dec.not dec_leader dec_reason dec_classes dec_count dec_idle
dec_says N rs R (follow s t) = dec_up_to rs R s t
dec_says N rs R (apart s t) = Dec.not (dec_up_to rs R s t)
dec_says N rs R (leader s l) = dec_leader N rs R s l
dec_says N rs R (led U s l) = dec_leader U rs R s l
dec_says N rs R (reason s t L) = dec_reason N rs R s t L
dec_says N rs R (unsound s t L) = Dec.not (dec_reason N rs R s t L)
dec_says N rs R (classes n) = dec_classes N rs R n
dec_says N rs R (idle n) = dec_count (Idle rs) (dec_idle rs) (length rs) n

abbrev yesb : {A : Type 0} → Dec A → Bool
yesb (yes a) = true
yesb (no a) = false

left : (a b : Bool) → T (a && b) → T a
left true b t = tt
left false b t = t

right : (a b : Bool) → T (a && b) → T b
right true b t = t
right false b t = absurd t

said : {A : Type 0} (d : Dec A) → T (yesb d) → A
said (yes a) t = a
said (no a) t = absurd t

module _ {Q : Claim → Type 0} (d : (c : Claim) → Dec (Q c)) where
  abbrev test_claims : List Claim → Bool
  test_claims [] = true
  test_claims (c ∷ cs) = yesb (d c) && test_claims cs

  claims-each : (cs : List Claim) → T (test_claims cs) → EachClaim Q cs
  claims-each [] t = tt
  claims-each (c ∷ cs) t = (said (d c) (left (yesb (d c)) (test_claims cs) t), claims-each cs (right (yesb (d c)) (test_claims cs) t))

module _ {Q : ℕ → List Rec → ℕ → Claim → Type 0} (d : (N : ℕ) (rs : List Rec) (R : ℕ) (c : Claim) → Dec (Q N rs R c)) where
  abbrev test_case : Case → Bool
  test_case c = test_claims (d c.tags c.records c.before) c.claims

  abbrev test_cases : List Case → Bool
  test_cases [] = true
  test_cases (c ∷ cs) = test_case c && test_cases cs

  cases-each : (cs : List Case) → T (test_cases cs) → EachCase Q cs
  cases-each [] t = tt
  cases-each (c ∷ cs) t = (
    claims-each (d c.tags c.records c.before) c.claims (left (test_case c) (test_cases cs) t),
    cases-each cs (right (test_case c) (test_cases cs) t),
  )

pub stars-hold : AllHold stars
unfolding dec_says
stars-hold = cases-each dec_says stars tt

pub twins-fail : NoneHold twins
unfolding dec_says Dec.not
twins-fail = cases-each (λ N rs R c. Dec.not (dec_says N rs R c)) twins tt
