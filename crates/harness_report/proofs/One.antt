-- There is one sound report of a plain harness sheet: leaders, classes and idle records are one, and so are the reason and its sheets. Assumes nothing.
use Prim.Native.Nat.{ℕ}
use native.Mathlib.Omega.{arith}
use mathlib.Core.Path.{◌≡◌, refl, sym, ◌∙◌, ap, ap₂, subst}
use mathlib.Core.Bool.{Bool, true, false}
use mathlib.Core.List.{List, [], ◌∷◌, ◌++◌}
use Rattle.meaning.specs.Following.{Follows, UpTo}
use Rattle.meaning.proofs.Looks.{led-one}
use Rattle.meaning.proofs.Units.{leader-one}
use Rattle.meaning.proofs.Laws.{classes-one, idles-one}
use Rattle.job_field.specs.Items.{Matter, Moment, Question, ask, explain, broken, why, Item}
use Rattle.report.specs.Broken.{Unbroken}
use Rattle.report.proofs.Broken.{earliest-one, earliest-some}
use Rattle.report.specs.Report.{numbers, field, Filed, unfiled, filed, Answers, led, reasoned as because-of, parted, joined, Totalled, total}
use Rattle.report.specs.Sheets.{Sheets}
use Rattle.report.proofs.Known.{no-reason}
use Rattle.sheets_field.proofs.Field.{sheets-one}
use Rattle.harness_meaning.proofs.Unique.{harness-one, harness-follows}
use Rattle.harness_report.specs.Report.{PairReasonAt, HarnessReasoned, because, breached, HarnessAnswers, asked, reasoned, apart, intact, doubted, HarnessSound, totals, passed, answered}

totalled-one : {M : Matter} {f g : List ℕ} → Totalled M f → Totalled M g → f ≡ g
totalled-one (total c i) (total d j) = ap₂ (λ (x y : ℕ). field 143 (numbers (x ∷ y ∷ []))) (classes-one c d) (idles-one i j)

ask-one : {M : Matter} {b : Moment} {s t : ℕ} {f g : List ℕ} → Answers M b (ask s t) f → Answers M b (ask s t) g → f ≡ g
ask-one (because-of r s) c = absurd (no-reason refl r)
ask-one (led h k) (because-of r s) = absurd (no-reason refl r)
ask-one (led h k) (led h' k') = ap₂ (λ (x y : ℕ). field 131 (numbers (x ∷ y ∷ []))) (leader-one h h') (leader-one k k')

why-one : {M : Matter} {b : Moment} {s t : ℕ} {f g : List ℕ} → Answers M b (why s t) f → Answers M b (why s t) g → f ≡ g
why-one (because-of r s) c = absurd (no-reason refl r)
why-one (parted n d) (because-of r s) = absurd (no-reason refl r)
why-one (joined f) (because-of r s) = absurd (no-reason refl r)
why-one (parted n d) (parted n' d') = ap (λ (l : List ℕ). field 136 (numbers l)) (led-one d d')
why-one (parted n d) (joined f) = absurd (n f)
why-one (joined f) (parted n d) = absurd (n f)
why-one (joined f) (joined g) = refl

breach-one : (M : Matter) (b : Moment) {k k' : ℕ} {L L' : List ℕ} → k ≡ k' → PairReasonAt M b k L → PairReasonAt M b k' L' → (L ≡ L') × (field 134 (numbers (k ∷ L)) ≡ field 134 (numbers (k' ∷ L')))
breach-one M b {k} {k'} {L} {L'} e r r' =
    let l : L' ≡ L = harness-one (rw e at r) r' in
    (sym l, rw (e, l) refl)

-- A question has one reason, ..
pub harness-reasoned-one : {M : Matter} {b : Moment} {q : Question} {L L' f f' : List ℕ} → HarnessReasoned M b q L f → HarnessReasoned M b q L' f' → (L ≡ L') × (f ≡ f')
harness-reasoned-one (because r) (because r') = let e = harness-one r' r in (e, ap (λ (l : List ℕ). field 132 (numbers l)) e)
harness-reasoned-one {M} {b} (breached e r) (breached e' r') = breach-one M b (earliest-one e e') r r'

-- .. one list of its sheets, ..
pub filed-one : {M : Matter} {L L' g g' : List ℕ} → L ≡ L' → Filed M L g → Filed M L' g' → g ≡ g'
filed-one e (unfiled a) (unfiled b) = refl
filed-one e (unfiled a) (filed b s) = let z : ◌≡◌ {A = ℕ} 0 1 = cc in absurd (omega arith)
filed-one e (filed a s) (unfiled b) = let z : ◌≡◌ {A = ℕ} 0 1 = cc in absurd (omega arith)
filed-one {M} e (filed a s) (filed {hs = hs} b t) = ap (λ (l : List ℕ). field 138 (numbers l)) (sheets-one s (subst (λ (l : List ℕ). Sheets M.sheets l hs) (sym e) t))

-- .. and no reason where it says that there is none. An ask and a why have no reason.
pub none_apart : {M : Matter} {b : Moment} {s t : ℕ} {L f : List ℕ} → (Follows (UpTo M.records b.records) s t → ⊥) → HarnessReasoned M b (explain s t) L f → ⊥
none_apart n (because r) = n (harness-follows r)

pub none-intact : {M : Matter} {b : Moment} {L f : List ℕ} → Unbroken M.records b.records M.pairs b.differs → HarnessReasoned M b broken L f → ⊥
none-intact n (breached e r) = earliest-some e n

abbrev has_reason : Question → Bool
has_reason (ask s t) = false
has_reason (explain s t) = true
has_reason broken = true
has_reason (why s t) = false

has-reason : {M : Matter} {b : Moment} {q : Question} {L f : List ℕ} → HarnessReasoned M b q L f → has_reason q ≡ true
has-reason (because r) = refl
has-reason (breached e r) = refl

pub harness-no-reason : {M : Matter} {b : Moment} {q : Question} → has_reason q ≡ false → {L f : List ℕ} → HarnessReasoned M b q L f → ⊥
harness-no-reason e r = let y : _ ≡ true = has-reason r in let z : ◌≡◌ {A = ℕ} 0 1 = cc in omega arith

-- Where a reason is right, no other answer is.
pub reason-only : {M : Matter} {b : Moment} {q : Question} {L f g : List ℕ} → HarnessReasoned M b q L f → HarnessAnswers M b q g → (h : List ℕ) × Filed M L h × (g ≡ f ++ h)
reason-only r (asked a) = absurd (harness-no-reason refl r)
reason-only {M} {f = f} r (reasoned {L = L'} {f = f'} {g = h} r' s) =
    let o = harness-reasoned-one r' r in
    (h, subst (λ (l : List ℕ). Filed M l h) o.0 s, ap (λ (l : List ℕ). l ++ h) o.1)
reason-only r (apart n) = absurd (none_apart n r)
reason-only r (intact n) = absurd (none-intact n r)
reason-only r (doubted a) = absurd (harness-no-reason refl r)

-- A question has one right answer, ..
pub harness-answers-one : {M : Matter} {b : Moment} {q : Question} {f g : List ℕ} → HarnessAnswers M b q f → HarnessAnswers M b q g → f ≡ g
harness-answers-one (reasoned {f = f} r s) c = let o = reason-only r c in ap (λ (l : List ℕ). f ++ l) (filed-one refl s o.1) ∙ sym o.2
harness-answers-one (asked a) (reasoned r s) = absurd (harness-no-reason refl r)
harness-answers-one (asked a) (asked a') = ask-one a a'
harness-answers-one (apart n) (reasoned r s) = absurd (none_apart n r)
harness-answers-one (apart n) (apart n') = refl
harness-answers-one (intact n) (reasoned r s) = absurd (none-intact n r)
harness-answers-one (intact n) (intact n') = refl
harness-answers-one (doubted a) (reasoned r s) = absurd (harness-no-reason refl r)
harness-answers-one (doubted a) (doubted a') = why-one a a'

-- .. and a sheet has one sound report.
pub harness-sound-one : {M : Matter} {b : Moment} {is : List Item} {bs cs : List ℕ} → HarnessSound M b is bs → HarnessSound M b is cs → bs ≡ cs
harness-sound-one (totals t) (totals u) = totalled-one t u
harness-sound-one (passed s) (passed u) = harness-sound-one s u
harness-sound-one (answered a s) (answered a' u) = ap₂ (λ (x y : List ℕ). x ++ y) (harness-answers-one a a') (harness-sound-one s u)
