-- DEFINITIONS, to be read against document 01, "Small cases on both sides" and "The program": the ten starred cases and the inspector's job as one table, what each
-- kind of claim says in the definitions, and the one claim over the table. What is idle is as document 02, No. 6, has it. Beside it a table of twins, each wrong where its case is right. Assumes nothing.
use Rattle.std.specs.Prelude.{ℕ, List, [], ◌∷◌}
use Rattle.meaning.specs.Following.{Rec, eq, app, Follows, UpTo, Leader}
use Rattle.meaning.specs.Reasons.{Reason}
use Rattle.meaning.specs.Totals.{Classes, Idles}

-- What is claimed at a question.
pub data Claim : Type 0 where
  follow apart : ℕ → ℕ → Claim
  leader : ℕ → ℕ → Claim
  led : ℕ → ℕ → ℕ → Claim
  reason unsound : ℕ → ℕ → List ℕ → Claim
  classes idle : ℕ → Claim

-- What a claim says of N tags and the records rs of a job, at a question that the first R of them stand before.
abbrev pub Says : ℕ → List Rec → ℕ → Claim → Type 0
-- s and t follow
Says N rs R (follow s t) = Follows (UpTo rs R) s t
-- s and t do not follow
Says N rs R (apart s t) = Follows (UpTo rs R) s t → ⊥
-- the leader of s is l, where no tag is a unit
Says N rs R (leader s l) = Leader N (UpTo rs R) s l
-- the same where the tags from U up are units
Says N rs R (led U s l) = Leader U (UpTo rs R) s l
-- the list is a reason for s and t
Says N rs R (reason s t L) = Reason N rs R s t L
-- the list is unsound: no reason for s and t
Says N rs R (unsound s t L) = Reason N rs R s t L → ⊥
-- there are n classes
Says N rs R (classes n) = Classes N (UpTo rs R) n
-- n records of the whole job are idle
Says N rs R (idle n) = Idles rs n

-- A case: the number of tags, the job's records in their order, how many of them stand before the question, and what is claimed.
pub record Case : Type 0 where
  pub tags : ℕ
  pub records : List Rec
  pub before : ℕ
  pub claims : List Claim

-- Q holds for every claim of a case, and of every case.
abbrev pub EachClaim : (Claim → Type 0) → List Claim → Type 0
EachClaim Q [] = Unit {0}
EachClaim Q (c ∷ cs) = Q c × EachClaim Q cs

abbrev pub EachCase : (ℕ → List Rec → ℕ → Claim → Type 0) → List Case → Type 0
EachCase Q [] = Unit {0}
EachCase Q (c ∷ cs) = EachClaim (Q c.tags c.records c.before) c.claims × EachCase Q cs

-- Every claim holds; none does.
abbrev pub AllHold : List Case → Type 0
AllHold = EachCase Says

abbrev pub NoneHold : List Case → Type 0
NoneHold = EachCase (λ N rs R c. Says N rs R c → ⊥)

-- "The inspector's job, N = 8".
abbrev pub inspector : List Rec
inspector = app 5 6 1 ∷ app 5 7 2 ∷ eq 1 3 ∷ eq 6 7 ∷ eq 0 2 ∷ []

-- A shop that numbers its probes first.
abbrev pub shop : List Rec
shop = eq 0 3 ∷ eq 3 2 ∷ []

-- "Those with a star are the ten to be shown directly from the definition, gathered as a single table under a single claim", which is AllHold; and the inspector's job, and a shop's with units.
abbrev pub stars : List Case
stars =
    -- 1. N=2, no records: 0 and 1 do not follow; 2 classes, 0 idle.
    record { tags = 2; records = []; before = 0; claims = apart 0 1 ∷ classes 2 ∷ idle 0 ∷ [] }
    -- 2. 1=0: leader of 1 is 0.
    ∷ record { tags = 2; records = eq 1 0 ∷ []; before = 1; claims = leader 1 0 ∷ [] }
    -- 3. f(0,1)=2, f(0,1)=3: 2 and 3 follow; reason 1 2.
    ∷ record { tags = 4; records = app 0 1 2 ∷ app 0 1 3 ∷ []; before = 2; claims = follow 2 3 ∷ reason 2 3 (1 ∷ 2 ∷ []) ∷ [] }
    -- 4. f(0,1)=2, f(1,0)=3: 2 and 3 do not follow.
    ∷ record { tags = 4; records = app 0 1 2 ∷ app 1 0 3 ∷ []; before = 2; claims = apart 2 3 ∷ [] }
    -- 5. the same and 0=1: they follow; reason 1 2 3.
    ∷ record { tags = 4; records = app 0 1 2 ∷ app 1 0 3 ∷ eq 0 1 ∷ []; before = 3; claims = follow 2 3 ∷ reason 2 3 (1 ∷ 2 ∷ 3 ∷ []) ∷ [] }
    -- 6. f(0,1)=2, f(3,1)=2: 0 and 3 do not follow.
    ∷ record { tags = 4; records = app 0 1 2 ∷ app 3 1 2 ∷ []; before = 2; claims = apart 0 3 ∷ [] }
    -- 7. f(0,0)=1, f(1,1)=2, 0=1: 0 and 2 follow; reason 1 2 3.
    ∷ record { tags = 3; records = app 0 0 1 ∷ app 1 1 2 ∷ eq 0 1 ∷ []; before = 3; claims = follow 0 2 ∷ reason 0 2 (1 ∷ 2 ∷ 3 ∷ []) ∷ [] }
    -- 8. 0=1, 1=2, 0=2: reason for 0 and 2 is 1 2; the list 3 is unsound.
    ∷ record { tags = 3; records = eq 0 1 ∷ eq 1 2 ∷ eq 0 2 ∷ []; before = 3; claims = reason 0 2 (1 ∷ 2 ∷ []) ∷ unsound 0 2 (3 ∷ []) ∷ [] }
    -- 9. 0=0: idle, classes unchanged: two, as in the first case.
    ∷ record { tags = 2; records = eq 0 0 ∷ []; before = 1; claims = idle 1 ∷ classes 2 ∷ [] }
    -- 10. f(0,1)=0, f(2,1)=3, 0=2: 2 and 3 follow; reason 1 2 3.
    ∷ record { tags = 4; records = app 0 1 0 ∷ app 2 1 3 ∷ eq 0 2 ∷ []; before = 3; claims = follow 2 3 ∷ reason 2 3 (1 ∷ 2 ∷ 3 ∷ []) ∷ [] }
    -- The inspector's job at its first question: N 2 3.
    ∷ record { tags = 8; records = inspector; before = 3; claims = apart 2 3 ∷ [] }
    -- The inspector's job at its other questions and its end: S 0 3 0 (both leaders are 0); E 0 3 5 1 2 3 4 5; D 0 4 0 4; E 2 1 3 1 2 4; E 4 4 0; T 4 0.
    ∷ record {
      tags = 8;
      records = inspector;
      before = 5;
      claims =
          follow 0 3 ∷ leader 0 0 ∷ leader 3 0 ∷ reason 0 3 (1 ∷ 2 ∷ 3 ∷ 4 ∷ 5 ∷ []) ∷ apart 0 4 ∷ leader 4 4
          ∷ reason 2 1 (1 ∷ 2 ∷ 4 ∷ []) ∷ reason 4 4 [] ∷ classes 4 ∷ idle 0 ∷ [];
    }
    -- Document 02, No. 3, with units from 2 up: 0=3, 3=2, and a probe beside them. The one unit of a class leads, though every probe is smaller; then the smaller of two; a probe
    -- where there is no unit. Where all tags are units, or none is, the smallest leads.
    ∷ record { tags = 4; records = shop; before = 1; claims = led 2 0 3 ∷ led 2 3 3 ∷ led 2 1 1 ∷ led 2 2 2 ∷ classes 3 ∷ [] }
    ∷ record { tags = 4; records = shop; before = 2; claims = led 2 0 2 ∷ led 2 3 2 ∷ led 0 3 0 ∷ led 4 3 0 ∷ led 3 0 3 ∷ classes 2 ∷ [] }
    ∷ []

-- The same tags and records, case by case, with claims that are wrong: which NoneHold says. Of the points of a reason, each that does not follow from the others is the only
-- one to fail in some list: the first in 3, 5 and the inspector's 2 3; the second in 5 and 7; the third in 8; the fourth in the inspector's 2 1.
abbrev pub twins : List Case
twins =
    -- 1. A class or an idle record that is not there.
    record { tags = 2; records = []; before = 0; claims = follow 0 1 ∷ classes 1 ∷ idle 1 ∷ [] }
    -- 2. The larger number leads.
    ∷ record { tags = 2; records = eq 1 0 ∷ []; before = 1; claims = leader 1 1 ∷ leader 0 1 ∷ [] }
    -- 3. One application is called enough; the numbers do not rise strictly.
    ∷ record { tags = 4; records = app 0 1 2 ∷ app 0 1 3 ∷ []; before = 2; claims = apart 2 3 ∷ reason 2 3 (2 ∷ []) ∷ reason 2 3 (1 ∷ 1 ∷ 2 ∷ []) ∷ [] }
    -- 4. The arguments are taken in any order.
    ∷ record { tags = 4; records = app 0 1 2 ∷ app 1 0 3 ∷ []; before = 2; claims = follow 2 3 ∷ [] }
    -- 5. Two applications are named, and why their arguments are equal is left out; one of them is left out; the numbers do not rise.
    ∷ record { tags = 4; records = app 0 1 2 ∷ app 1 0 3 ∷ eq 0 1 ∷ []; before = 3; claims = apart 2 3 ∷ reason 2 3 (1 ∷ 2 ∷ []) ∷ reason 2 3 (1 ∷ 3 ∷ []) ∷ reason 2 3 (2 ∷ 1 ∷ 3 ∷ []) ∷ [] }
    -- 6. Equal arguments are concluded from equal results.
    ∷ record { tags = 4; records = app 0 1 2 ∷ app 3 1 2 ∷ []; before = 2; claims = follow 0 3 ∷ [] }
    -- 7. Applications are skipped whose two arguments lie in the joined class.
    ∷ record { tags = 3; records = app 0 0 1 ∷ app 1 1 2 ∷ eq 0 1 ∷ []; before = 3; claims = apart 0 2 ∷ reason 0 2 (2 ∷ 3 ∷ []) ∷ [] }
    -- 8. A list that does not end at the first k is called a reason, and one that holds a spare record; a reason is called unsound.
    ∷ record { tags = 3; records = eq 0 1 ∷ eq 1 2 ∷ eq 0 2 ∷ []; before = 3; claims = reason 0 2 (3 ∷ []) ∷ reason 0 2 (1 ∷ 2 ∷ 3 ∷ []) ∷ unsound 0 2 (1 ∷ 2 ∷ []) ∷ [] }
    -- 9. The record is called of use.
    ∷ record { tags = 2; records = eq 0 0 ∷ []; before = 1; claims = idle 0 ∷ classes 1 ∷ [] }
    -- 10. A result that is its own application's argument is left out.
    ∷ record { tags = 4; records = app 0 1 0 ∷ app 2 1 3 ∷ eq 0 2 ∷ []; before = 3; claims = apart 2 3 ∷ reason 2 3 (1 ∷ 2 ∷ []) ∷ [] }
    -- The inspector's first question, answered from records that stand behind it.
    ∷ record { tags = 8; records = inspector; before = 3; claims = follow 2 3 ∷ reason 2 3 (1 ∷ 2 ∷ 3 ∷ 4 ∷ []) ∷ [] }
    -- The inspector's other questions, each answer changed in one place. An empty list as every reason; a spare record; all records so far; as idle the records that joined nothing.
    ∷ record {
      tags = 8;
      records = inspector;
      before = 5;
      claims =
          apart 0 3 ∷ leader 0 1 ∷ leader 3 1 ∷ reason 0 3 (1 ∷ 2 ∷ 3 ∷ 5 ∷ []) ∷ reason 0 3 [] ∷ follow 0 4 ∷ leader 4 0
          ∷ reason 2 1 (1 ∷ 2 ∷ 3 ∷ 4 ∷ []) ∷ reason 2 1 (1 ∷ 2 ∷ 3 ∷ 4 ∷ 5 ∷ []) ∷ reason 4 4 (1 ∷ []) ∷ classes 5 ∷ idle 2 ∷ [];
    }
    -- A probe leads a class that has a unit, or a unit one that has it not; the larger unit leads.
    ∷ record { tags = 4; records = shop; before = 1; claims = led 2 0 0 ∷ led 2 3 0 ∷ led 2 1 2 ∷ [] }
    ∷ record { tags = 4; records = shop; before = 2; claims = led 2 0 3 ∷ led 2 3 3 ∷ led 4 0 2 ∷ led 0 3 2 ∷ [] }
    ∷ []
