-- The harness profile of document 02, No. 8: every record of the job is an equation, and a reason is the harness reason.
-- Assumes nothing.
use Rattle.std.specs.Prelude.{ℕ, List, refl}
use Rattle.job_field.specs.Items.{Matter, Moment, ask, why}
use Rattle.report.specs.Report as told
use Rattle.harness_meaning.specs.Harness.{Harness}
use Rattle.harness_report.specs.Report.{HarnessReasoned, because, breached, HarnessAnswers, asked, reasoned, apart, intact, doubted, HarnessSound, totals, passed, answered}
use Rattle.harness_report.specs.Fault.{HarnessFault}
use Rattle.harness_report.specs.Fault as fault
use Rattle.harness_report.proofs.Fits.{harness-few, harness-answers-fits}
use Rattle.harness_report.proofs.One.{harness-no-reason}
use Rattle.harness_read.specs.Profile.{Equations}
use Rattle.harness_reason.specs.Explaining.{Plain}
use Rattle.harness_reason.proofs.Plain.{plain_in}
use Rattle.profile.specs.Rules.{Rules, Laws}

abbrev pub harness_rules : Rules
harness_rules = record {
  Asks = Equations;
  Held = Plain;
  IsReason = Harness;
  Reasoned = HarnessReasoned;
  Answers = HarnessAnswers;
  Sound = HarnessSound;
  FaultAt = HarnessFault;
}

ask-only : {M : Matter} {b : Moment} {s t : ℕ} {f : List ℕ} → HarnessAnswers M b (ask s t) f → told.Answers M b (ask s t) f
ask-only (asked a) = a
ask-only (reasoned r g) = absurd (harness-no-reason refl r)

why-only : {M : Matter} {b : Moment} {s t : ℕ} {f : List ℕ} → HarnessAnswers M b (why s t) f → told.Answers M b (why s t) f
why-only (doubted a) = a
why-only (reasoned r g) = absurd (harness-no-reason refl r)

pub harness_laws : Laws harness_rules
harness_laws = record {
  held = λ {is} {len} {w} a r. plain_in len w is r a;
  rising = λ r. r.rising;
  stand = λ r. r.stand;
  few = λ r. harness-few r;
  because = λ r. because r;
  breached = λ e r. breached e r;
  no-ask = λ r. harness-no-reason refl r;
  no-why = λ r. harness-no-reason refl r;
  asked = λ f. (λ a. ask-only a, λ a. asked a);
  doubted = λ f. (λ a. why-only a, λ a. doubted a);
  reasoned = λ r f. reasoned r f;
  apart = λ n. apart n;
  intact = λ u. intact u;
  fits = λ a. harness-answers-fits a;
  totals = λ t. totals t;
  passed = λ s. passed s;
  answered = λ a s. answered a s;
  past = λ f. fault.past f;
  behind = λ a f. fault.behind a f;
  wrong = λ n m. fault.wrong n m;
  astray = λ r n. fault.astray r n;
  closing = λ n. fault.closing n;
  spare = λ t x bs. fault.spare t x bs;
}
