-- Document 01, "The program": what the lines that tagcheck writes for an accepted job mean, one case for each letter. Document 02, No. 1: `C` and `K`; No. 7: `W` and `Y`; No. 9: `H`.
-- Assumes nothing.
use Rattle.std.specs.Prelude.{ℕ, ◌≡◌, ◌≢◌, true, false, List, [], ◌∷◌, ◌++◌, length}
use Rattle.meaning.specs.Following.{Follows, UpTo, Leader}
use Rattle.meaning.specs.Looks.{Led}
use Rattle.meaning.specs.Reasons.{Reason}
use Rattle.meaning.specs.Totals.{Classes, Idles}
use Rattle.job_field.specs.Items.{Matter, Note, Moment, after, ask, explain, broken, why, Item, noted, posed}
use Rattle.report.specs.Broken.{Earliest, Unbroken, PairReason}
use Rattle.report.specs.Sheets.{Sheets}
use Rattle.text_line.specs.Line.{line}

-- What stands behind the line of a reason. `H k` and k sheet numbers: in edition 2, the distinct sheets of that reason, rising, without 0; in edition 1 nothing.
pub data Shelved (M : Matter) (L : List ℕ) : List ℕ → Type 0 where
  unfiled : M.head.sheeted ≡ false → Shelved M L []
  filed : {hs : List ℕ} → M.head.sheeted ≡ true → Sheets M.sheets L hs → Shelved M L (line 72 (length hs ∷ hs))

-- The text of the items from a moment on: of the job's records, those before a question decide.
pub data Meant (M : Matter) : Moment → List Item → List ℕ → Type 0 where
  -- a note has no line
  passed : {b : Moment} {n : Note} {is : List Item} {x : List ℕ} → Meant M (after (noted n) b) is x → Meant M b (noted n ∷ is) x
  -- `S s t l`: ask, same, leader
  same : {b : Moment} {s t l : ℕ} {is : List Item} {x : List ℕ} → Leader M.head.units (UpTo M.records b.records) s l → Leader M.head.units (UpTo M.records b.records) t l
      → Meant M (after (posed (ask s t)) b) is x → Meant M b (posed (ask s t) ∷ is) (line 83 (s ∷ t ∷ l ∷ []) ++ x)
  -- `D s t l m`: ask, different, both leaders
  different : {b : Moment} {s t l m : ℕ} {is : List Item} {x : List ℕ} → Leader M.head.units (UpTo M.records b.records) s l → Leader M.head.units (UpTo M.records b.records) t m → l ≢ m
      → Meant M (after (posed (ask s t)) b) is x → Meant M b (posed (ask s t) ∷ is) (line 68 (s ∷ t ∷ l ∷ m ∷ []) ++ x)
  -- `E s t k` and k record numbers, which are a reason
  because : {b : Moment} {s t : ℕ} {L h : List ℕ} {is : List Item} {x : List ℕ} → Reason M.head.size M.records b.records s t L → Shelved M L h
      → Meant M (after (posed (explain s t)) b) is x → Meant M b (posed (explain s t) ∷ is) ((line 69 (s ∷ t ∷ length L ∷ L) ++ h) ++ x)
  -- `N s t`: explain, does not follow
  apart : {b : Moment} {s t : ℕ} {is : List Item} {x : List ℕ} → (Follows (UpTo M.records b.records) s t → ⊥)
      → Meant M (after (posed (explain s t)) b) is x → Meant M b (posed (explain s t) ∷ is) (line 78 (s ∷ t ∷ []) ++ x)
  -- `C number k` and k record numbers: the earliest pair that is broken, and a reason why its tags are equal
  breached : {b : Moment} {k : ℕ} {L h : List ℕ} {is : List Item} {x : List ℕ} → Earliest M.records b.records M.pairs b.differs k → PairReason M b k L → Shelved M L h
      → Meant M (after (posed broken) b) is x → Meant M b (posed broken ∷ is) ((line 67 (k ∷ length L ∷ L) ++ h) ++ x)
  -- `K`: no pair is broken
  intact : {b : Moment} {is : List Item} {x : List ℕ} → Unbroken M.records b.records M.pairs b.differs
      → Meant M (after (posed broken) b) is x → Meant M b (posed broken ∷ is) (line 75 [] ++ x)
  -- `W s t` and the leader of every tag in order: why, does not follow
  parted : {b : Moment} {s t : ℕ} {L : List ℕ} {is : List Item} {x : List ℕ} → (Follows (UpTo M.records b.records) s t → ⊥) → Led M.head.size M.head.units (UpTo M.records b.records) L
      → Meant M (after (posed (why s t)) b) is x → Meant M b (posed (why s t) ∷ is) (line 87 (s ∷ t ∷ L) ++ x)
  -- `Y s t`: why, follows
  joined : {b : Moment} {s t : ℕ} {is : List Item} {x : List ℕ} → Follows (UpTo M.records b.records) s t
      → Meant M (after (posed (why s t)) b) is x → Meant M b (posed (why s t) ∷ is) (line 89 (s ∷ t ∷ []) ++ x)
  -- `T classes idle`: at the end of the job
  totals : {b : Moment} {c i : ℕ} → Classes M.head.size (UpTo M.records (length M.records)) c → Idles M.records i → Meant M b [] (line 84 (c ∷ i ∷ []))
