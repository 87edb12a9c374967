-- The plain profile, by document 01's own definitions: it asks nothing more of a job.
-- Assumes nothing.
use Rattle.std.specs.Prelude.{refl}
use Rattle.meaning.specs.Reasons.{Reason}
use Rattle.report.specs.Report.{Reasoned, Answers, Sound}
use Rattle.report.specs.Report as told
use Rattle.report.specs.Fault.{FaultAt}
use Rattle.report.specs.Fault as fault
use Rattle.report.proofs.Fits.{reason-few, answers-fits}
use Rattle.report.proofs.Known.{no-reason}
use Rattle.profile.specs.Rules.{Rules, Laws}

abbrev pub plain_rules : Rules
plain_rules = record {
  Asks = λ is. Unit {0};
  Held = λ len w. Unit {0};
  IsReason = Reason;
  Reasoned = Reasoned;
  Answers = Answers;
  Sound = Sound;
  FaultAt = FaultAt;
}

pub plain_laws : Laws plain_rules
plain_laws = record {
  held = λ a r. tt;
  rising = λ r. r.rising;
  stand = λ r. r.stand;
  few = λ r. reason-few r;
  because = λ r. told.because r;
  breached = λ e r. told.breached e r;
  no-ask = λ r. no-reason refl r;
  no-why = λ r. no-reason refl r;
  asked = λ f. (λ a. a, λ a. a);
  doubted = λ f. (λ a. a, λ a. a);
  reasoned = λ r f. told.reasoned r f;
  apart = λ n. told.apart n;
  intact = λ u. told.intact u;
  fits = λ a. answers-fits a;
  totals = λ t. told.totals t;
  passed = λ s. told.passed s;
  answered = λ a s. told.answered a s;
  past = λ f. fault.past f;
  behind = λ a f. fault.behind a f;
  wrong = λ n m. fault.wrong n m;
  astray = λ r n. fault.astray r n;
  closing = λ n. fault.closing n;
  spare = λ t x bs. fault.spare t x bs;
}
