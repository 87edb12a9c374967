-- Two outcomes that meet the run's promise on the same lent things are one, but for the choice among reasons: reading is a function, the
-- cases exclude each other, leaders, classes and idle records are one, and a table of a length whose places are all told is one.
-- Assumes nothing.
use Prim.Native.Nat.{ℕ, zero, suc, ◌<◌}
use native.Mathlib.Omega.{arith}
use mathlib.Core.Path.{◌≡◌, refl, sym, ◌∙◌, ap, ap₂}
use mathlib.Core.Logic.{◌⊎◌, inl, inr}
use mathlib.Core.List.{List, [], ◌∷◌, ◌++◌}
use lib.ListN.{length, get_or, drop}
use Rattle.meaning.specs.Following.{UpTo, Follows, Leader}
use Rattle.meaning.specs.Looks.{Led}
use Rattle.meaning.proofs.Looks.{led-one}
use Rattle.meaning.proofs.Units.{leader-one}
use Rattle.meaning.proofs.Laws.{classes-one, idles-one, reason-follows}
use Rattle.meaning.specs.Limits.{named_numbers, named_places}
use Rattle.job_field.specs.Items.{Head, Matter, matter_of, Moment, start, after, Question, ask, explain, broken, why, Item, posed, Reading, refused, accepted, needed_room}
use Rattle.job_field.specs.Reading.{reading}
use Rattle.records.specs.declared.Record.{Record}
use Rattle.records.specs.Table.{blank, Blanked}
use Rattle.report.specs.Broken.{Earliest, PairReason, Unbroken}
use Rattle.report.proofs.Broken.{earliest-one, earliest-some}
use Rattle.report.proofs.Known.{no-reason}
use Rattle.sheets_field.proofs.Field.{sheets-one}
use Rattle.report.specs.Report.{numbers, field, Reasoned, because, breached, Filed, unfiled, filed, led, reasoned, apart, intact, parted, joined, Totalled, total, Sound, totals, passed, answered}
use Rattle.call_look.specs.Clear.{Cleared}
use Rattle.call_look.specs.Lent.{Lent}
use Rattle.haltzurme.specs.Run.{Ran, long, narrow, unread, cramped, done}
use Rattle.haltzurme.specs.Alike.{Alike, OneRun, equal, chosen}
use Rattle.haltzurme.specs.Alike as alike

-- Two lists of one length whose first k members agree, and what lies behind them, are one.
pub list-one : {A : Type 0} (d : A) (k : ℕ) (l l' : List A) → length l' ≡ length l → ((i : ℕ) → i < k → get_or l' i d ≡ get_or l i d) → drop k l' ≡ drop k l → l' ≡ l
list-one d zero l l' e h r = r
list-one d (suc k) [] [] e h r = refl
list-one d (suc k) [] (y ∷ ys) e h r = absurd (omega arith)
list-one d (suc k) (x ∷ xs) [] e h r = absurd (omega arith)
list-one d (suc k) (x ∷ xs) (y ∷ ys) e h r = ap₂ ◌∷◌ (h 0 (omega arith)) (list-one d k xs ys (omega arith) (λ i l. h (suc i) (omega arith)) r)

pub cleared-one : {w a b : List ℕ} → Cleared w a → Cleared w b → a ≡ b
cleared-one {w} {a} {b} c d = list-one 0 named_numbers b a (c.size ∙ sym d.size) (λ i l. c.zero i l ∙ sym (d.zero i l)) (c.rest ∙ sym d.rest)

pub blanked-one : {t a b : List Record} → Blanked t a → Blanked t b → a ≡ b
blanked-one {t} {a} {b} c d = list-one blank named_places b a (c.size ∙ sym d.size) (λ i l. c.zero i l ∙ sym (d.zero i l)) (c.rest ∙ sym d.rest)

totalled-one : {M : Matter} {f g : List ℕ} → Totalled M f → Totalled M g → f ≡ g
totalled-one (total c i) (total d j) = ap₂ (λ (x y : ℕ). field 143 (numbers (x ∷ y ∷ []))) (classes-one c d) (idles-one i j)

led-alike : {M : Matter} {b : Moment} {s t l m l' m' : ℕ} {is : List Item} {bs bs' : List ℕ} → Leader M.head.units (UpTo M.records b.records) s l' → Leader M.head.units (UpTo M.records b.records) t m'
    → l ≡ l' → m ≡ m' → Alike M (after (posed (ask s t)) b) is bs bs'
    → Alike M b (posed (ask s t) ∷ is) (field 131 (numbers (l ∷ m ∷ [])) ++ bs) (field 131 (numbers (l' ∷ m' ∷ [])) ++ bs')
led-alike h k p q a = rw (p, q) (alike.answered (led h k) a)

-- What stands behind a reason is one.
pub filed-same : {M : Matter} {L g g' : List ℕ} → Filed M L g → Filed M L g' → g ≡ g'
filed-same (unfiled a) (unfiled b) = refl
filed-same (unfiled a) (filed b s) = let z : ◌≡◌ {A = ℕ} 0 1 = cc in absurd (omega arith)
filed-same (filed a s) (unfiled b) = let z : ◌≡◌ {A = ℕ} 0 1 = cc in absurd (omega arith)
filed-same (filed a s) (filed b t) = ap (λ (hs : List ℕ). field 138 (numbers hs)) (sheets-one s t)

breach-alike : {M : Matter} {b : Moment} {k k' : ℕ} {is : List Item} {L L' g g' bs bs' : List ℕ} → Earliest M.records b.records M.pairs b.differs k → Earliest M.records b.records M.pairs b.differs k' → PairReason M b k L → PairReason M b k' L' → Filed M L g → Filed M L' g'
    → Alike M (after (posed broken) b) is bs bs' → Alike M b (posed broken ∷ is) ((field 134 (numbers (k ∷ L)) ++ g) ++ bs) ((field 134 (numbers (k' ∷ L')) ++ g') ++ bs')
breach-alike {k = k} {k' = k'} {L = L} {L' = L'} e e' r r' f f' a =
    let i : k ≡ k' = earliest-one e e' in
    rw i (alike.breached {k = k'} {L = L} {L' = L'} e' (rw i at r) r' f f' a)

parted-alike : {M : Matter} {b : Moment} {s t : ℕ} {L L' : List ℕ} {is : List Item} {bs bs' : List ℕ} → (Follows (UpTo M.records b.records) s t → ⊥) → Led M.head.size M.head.units (UpTo M.records b.records) L' → L ≡ L'
    → Alike M (after (posed (why s t)) b) is bs bs' → Alike M b (posed (why s t) ∷ is) (field 136 (numbers L) ++ bs) (field 136 (numbers L') ++ bs')
parted-alike n d p a = rw p (alike.answered (parted n d) a)

-- Two reasons for one question, each with what stands behind it.
reasoned-alike : {M : Matter} {b : Moment} {q : Question} {is : List Item} {L L' f f' g g' bs bs' : List ℕ} → Reasoned M b q L f → Reasoned M b q L' f' → Filed M L g → Filed M L' g'
    → Alike M (after (posed q) b) is bs bs' → Alike M b (posed q ∷ is) ((f ++ g) ++ bs) ((f' ++ g') ++ bs')
reasoned-alike (because r) (because r') s s' a = alike.reasoned r r' s s' a
reasoned-alike (breached e r) (breached e' r') s s' a = breach-alike e e' r r' s s' a

-- What has a reason is not apart, and not unbroken.
reason-apart : {M : Matter} {b : Moment} {s t : ℕ} {L f : List ℕ} → Reasoned M b (explain s t) L f → (Follows (UpTo M.records b.records) s t → ⊥) → ⊥
reason-apart (because r) n = n (reason-follows r)

reason-intact : {M : Matter} {b : Moment} {L f : List ℕ} → Reasoned M b broken L f → Unbroken M.records b.records M.pairs b.differs → ⊥
reason-intact (breached e r) n = earliest-some e n

-- Two sound reports of the same items differ at most in the choice among reasons.
pub sound-alike : {M : Matter} {b : Moment} {is : List Item} {bs bs' : List ℕ} → Sound M b is bs → Sound M b is bs' → Alike M b is bs bs'
sound-alike (totals t) (totals u) = rw (totalled-one t u) (alike.totals u)
sound-alike (passed s) (passed u) = alike.passed (sound-alike s u)
sound-alike (answered (led h k) s) (answered (led h' k') u) = led-alike h' k' (leader-one h h') (leader-one k k') (sound-alike s u)
sound-alike (answered (led h k) s) (answered (reasoned r g) u) = absurd (no-reason refl r)
sound-alike (answered (reasoned r g) s) (answered (led h k) u) = absurd (no-reason refl r)
sound-alike (answered (reasoned r f) s) (answered (reasoned r' f') u) = reasoned-alike r r' f f' (sound-alike s u)
sound-alike (answered (reasoned r f) s) (answered (apart n) u) = absurd (reason-apart r n)
sound-alike (answered (apart n) s) (answered (reasoned r f) u) = absurd (reason-apart r n)
sound-alike (answered (apart n) s) (answered (apart n') u) = alike.answered (apart n) (sound-alike s u)
sound-alike (answered (reasoned r f) s) (answered (intact n) u) = absurd (reason-intact r n)
sound-alike (answered (intact n) s) (answered (reasoned r f) u) = absurd (reason-intact r n)
sound-alike (answered (intact n) s) (answered (intact n') u) = alike.answered (intact n) (sound-alike s u)
sound-alike (answered (parted n d) s) (answered (parted n' d') u) = parted-alike n' d' (led-one d d') (sound-alike s u)
sound-alike (answered (parted n d) s) (answered (joined f) u) = absurd (n f)
sound-alike (answered (joined f) s) (answered (parted n d) u) = absurd (n f)
sound-alike (answered (joined f) s) (answered (joined f') u) = alike.answered (joined f) (sound-alike s u)
sound-alike (answered (parted n d) s) (answered (reasoned r g) u) = absurd (no-reason refl r)
sound-alike (answered (reasoned r g) s) (answered (parted n d) u) = absurd (no-reason refl r)
sound-alike (answered (joined f) s) (answered (reasoned r g) u) = absurd (no-reason refl r)
sound-alike (answered (reasoned r g) s) (answered (joined f) u) = absurd (no-reason refl r)

-- What is long enough is not short.
pub lent-not : {job : List ℕ} {records : List Record} {work : List ℕ} → Lent job records work → (length records < named_places) ⊎ (length work < named_numbers) → ⊥
lent-not i (inl h) = omega (arith, i.places)
lent-not i (inr h) = omega (arith, i.numbers)

-- Reading gives one answer.
pub clash : {X : Reading} {n p : ℕ} {H : Head} {items : List Item} → X ≡ refused n p → X ≡ accepted H items → ⊥
clash e f = let z : ◌≡◌ {A = ℕ} 0 1 = cc in omega arith

pub refused-one : {X : Reading} {n p n' p' : ℕ} → X ≡ refused n p → X ≡ refused n' p' → (n ≡ n') × (p ≡ p')
refused-one e f = (cc, cc)

pub accepted-one : {X : Reading} {H H' : Head} {items items' : List Item} → X ≡ accepted H items → X ≡ accepted H' items' → (H ≡ H') × (items ≡ items')
accepted-one e f = (cc, cc)

-- So both need the same room.
room-one : {X : Reading} {H H' : Head} {items items' : List Item} → X ≡ accepted H items → X ≡ accepted H' items' → needed_room H start items ≡ needed_room H' start items'
room-one e f = let a = accepted-one e f in ap₂ (λ (x : Head) (is : List Item). needed_room x start is) a.0 a.1

module _ {job room : List ℕ} {records₁ records₂ : List Record} {work₁ work₂ : List ℕ} (r : records₁ ≡ records₂) (w : work₁ ≡ work₂) where
  refused-same : {n p n' p' : ℕ} → n ≡ n' → p ≡ p' → OneRun job room records₁ records₂ work₁ work₂ n p 0 room n' p' 0 room
  refused-same a b = rw (a, b) (equal r w)

  done-same : {H H' : Head} {items items' : List Item} {bs bs' : List ℕ} → reading job ≡ accepted H items → H ≡ H' → items ≡ items' → Sound (matter_of H items) start items bs → Sound (matter_of H' items') start items' bs'
      → OneRun job room records₁ records₂ work₁ work₂ 0 0 (length bs) (bs ++ drop (length bs) room) 0 0 (length bs') (bs' ++ drop (length bs') room)
  done-same {H} {H'} {items} {items'} {bs} {bs'} e a b s s' =
      let t : Sound (matter_of H items) start items bs' = rw (a, b) s' in
      chosen e r w (sound-alike s t)

pub run-one : {job room : List ℕ} {records : List Record} {work : List ℕ} {n p l n' p' l' : ℕ} {room₁ room₂ : List ℕ} {records₁ records₂ : List Record} {work₁ work₂ : List ℕ}
    → Ran job room records work n p l room₁ records₁ work₁ → Ran job room records work n' p' l' room₂ records₂ work₂
    → OneRun job room records₁ records₂ work₁ work₂ n p l room₁ n' p' l' room₂
run-one (long h) (long k) = equal refl refl
run-one (long h) (narrow k t) = absurd (omega arith)
run-one (long h) (unread i e m) = absurd (omega (arith, i.short))
run-one (long h) (cramped i e s m) = absurd (omega (arith, i.short))
run-one (long h) (done i e s r m) = absurd (omega (arith, i.short))
run-one (narrow h t) (long k) = absurd (omega arith)
run-one (narrow h t) (narrow k u) = equal refl refl
run-one (narrow h t) (unread i e m) = absurd (lent-not i t)
run-one (narrow h t) (cramped i e s m) = absurd (lent-not i t)
run-one (narrow h t) (done i e s r m) = absurd (lent-not i t)
run-one (unread i e m) (long k) = absurd (omega (arith, i.short))
run-one (unread i e m) (narrow k t) = absurd (lent-not i t)
run-one (unread i e m) (unread i' e' m') =
    let a = refused-one e e' in
    refused-same (blanked-one m.blanked m'.blanked) (cleared-one m.cleared m'.cleared) a.0 a.1
run-one (unread i e m) (cramped i' e' s' m') = absurd (clash e e')
run-one (unread i e m) (done i' e' s' r' m') = absurd (clash e e')
run-one (cramped i e s m) (long k) = absurd (omega (arith, i.short))
run-one (cramped i e s m) (narrow k t) = absurd (lent-not i t)
run-one (cramped i e s m) (unread i' e' m') = absurd (clash e' e)
run-one (cramped i e s m) (cramped i' e' s' m') = equal (blanked-one m.blanked m'.blanked) (cleared-one m.cleared m'.cleared)
run-one (cramped i e s m) (done i' e' s' r' m') = absurd (omega (arith, room-one e e'))
run-one (done i e s r m) (long k) = absurd (omega (arith, i.short))
run-one (done i e s r m) (narrow k t) = absurd (lent-not i t)
run-one (done i e s r m) (unread i' e' m') = absurd (clash e' e)
run-one (done i e s r m) (cramped i' e' s' m') = absurd (omega (arith, room-one e e'))
run-one (done i e s r m) (done i' e' s' r' m') =
    let a = accepted-one e e' in
    done-same (blanked-one m.blanked m'.blanked) (cleared-one m.cleared m'.cleared) e a.0 a.1 r r'
