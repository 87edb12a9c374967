-- The reading of the harness profile is the other one and a walk to the first field of kind 02, taken together; so it accepts exactly the jobs that the other accepts and whose
-- records are equations. Assumes nothing.
use Prim.Native.Nat.{ℕ, zero, suc, ◌+◌, ◌*◌, ◌≤◌, ◌<◌}
use native.Mathlib.Omega.{arith}
use native.Mathlib.Decide.{ℕ_discrete}
use mathlib.Core.Path.{◌≡◌, refl, sym, ◌∙◌, ap}
use mathlib.Core.Logic.{◌↔◌, ◌⊎◌, inl, inr}
use mathlib.Core.Bool.{Bool, true, false, cond, ◌&&◌}
use mathlib.Core.List.{List, [], ◌∷◌}
use lib.Dec.{eqb, leb, ltb}
use lib.ListN.{length}
use borrow.Author.Tests.{lt-ltb, le-ltb, eqb-true}
use Rattle.meaning.specs.Following.{eq, app}
use Rattle.job_field.specs.Items.{Head, line, differ, Item, noted, posed, Moment, start, after, Reading, refused, accepted, unsized}
use Rattle.job_field.specs.Reading.{Kind, first, first-units, first-sheets, record-eq, record-app, sheeted-eq, sheeted-app, note-differ, question-ask, question-explain, question-broken, question-why, last, unknown, byte_at, number_at, length_at, behind_at, sheeted_in, kind_at, body_at, length_of_body, known, says, Field, bad, header, item, end, or_else, field_of_kind, field_standing, counted, sized, filed, field_tags, tagged, checked, offset_of, with, behind, onward, read_from, reading}
use Rattle.job_field.proofs.Numbers.{tags-few}
use Rattle.harness_read.specs.Profile.{harness_kind, harness_field, harness_from, harness_reading, Equations, Place, none, some, is_apply, marked, ends_at, apply_from, both}

-- A field of kind 02 with three bytes there is refused by 4, and every other is as it was.
module _ (job : List ℕ) (at : ℕ) where
  field-marked : marked job at ≡ true → harness_field job at ≡ bad 4
  unfolding marked harness_field
  field-marked = go (leb (at + 3) (length job)) (kind_at (sheeted_in job) at (byte_at job at) (length_at job at))
    where
      go : (b : Bool) (k : Kind) → (b && is_apply k) ≡ true → or_else b 3 (field_of_kind job at (harness_kind k)) ≡ bad 4
      go true record-app e = refl
      go true sheeted-app e = refl
      go true first e = let z : ◌≡◌ {A = ℕ} 0 1 = cc e in absurd (omega arith)
      go true first-units e = let z : ◌≡◌ {A = ℕ} 0 1 = cc e in absurd (omega arith)
      go true first-sheets e = let z : ◌≡◌ {A = ℕ} 0 1 = cc e in absurd (omega arith)
      go true record-eq e = let z : ◌≡◌ {A = ℕ} 0 1 = cc e in absurd (omega arith)
      go true sheeted-eq e = let z : ◌≡◌ {A = ℕ} 0 1 = cc e in absurd (omega arith)
      go true note-differ e = let z : ◌≡◌ {A = ℕ} 0 1 = cc e in absurd (omega arith)
      go true question-ask e = let z : ◌≡◌ {A = ℕ} 0 1 = cc e in absurd (omega arith)
      go true question-explain e = let z : ◌≡◌ {A = ℕ} 0 1 = cc e in absurd (omega arith)
      go true question-broken e = let z : ◌≡◌ {A = ℕ} 0 1 = cc e in absurd (omega arith)
      go true question-why e = let z : ◌≡◌ {A = ℕ} 0 1 = cc e in absurd (omega arith)
      go true last e = let z : ◌≡◌ {A = ℕ} 0 1 = cc e in absurd (omega arith)
      go true unknown e = let z : ◌≡◌ {A = ℕ} 0 1 = cc e in absurd (omega arith)
      go false k e = let z : ◌≡◌ {A = ℕ} 0 1 = cc e in absurd (omega arith)

  field-else : marked job at ≡ false → harness_field job at ≡ field_standing job at
  unfolding marked harness_field field_standing
  field-else = go (leb (at + 3) (length job)) (kind_at (sheeted_in job) at (byte_at job at) (length_at job at))
    where
      go : (b : Bool) (k : Kind) → (b && is_apply k) ≡ false → or_else b 3 (field_of_kind job at (harness_kind k)) ≡ or_else b 3 (field_of_kind job at k)
      go true record-app e = let z : ◌≡◌ {A = ℕ} 0 1 = cc e in absurd (omega arith)
      go true sheeted-app e = let z : ◌≡◌ {A = ℕ} 0 1 = cc e in absurd (omega arith)
      go true first e = refl
      go true first-units e = refl
      go true first-sheets e = refl
      go true record-eq e = refl
      go true sheeted-eq e = refl
      go true note-differ e = refl
      go true question-ask e = refl
      go true question-explain e = refl
      go true question-broken e = refl
      go true question-why e = refl
      go true last e = refl
      go true unknown e = refl
      go false k e = refl

  -- A field states room for its tags.
  tags-body : (k : Kind) (a b c d : ℕ) → 2 * length (field_tags (says k a b c d)) ≤ length_of_body k
  tags-body first a b c d = omega arith
  tags-body first-units a b c d = omega arith
  tags-body first-sheets a b c d = omega arith
  tags-body record-eq a b c d = omega arith
  tags-body sheeted-eq a b c d = omega arith
  tags-body record-app a b c d = omega arith
  tags-body sheeted-app a b c d = omega arith
  tags-body note-differ a b c d = omega arith
  tags-body question-ask a b c d = omega arith
  tags-body question-explain a b c d = omega arith
  tags-body question-broken a b c d = omega arith
  tags-body question-why a b c d = omega arith
  tags-body last a b c d = omega arith
  tags-body unknown a b c d = omega arith

  field-long : 2 * length (field_tags (field_standing job at)) ≤ length_at job at
  unfolding field_standing
  field-long = go (leb (at + 3) (length job)) (known k) (eqb (length_at job at) (length_of_body k)) (leb (behind_at job at) (length job)) refl
    where
      k : Kind
      k = kind_at (sheeted_in job) at (byte_at job at) (length_at job at)

      go : (p q r s : Bool) → eqb (length_at job at) (length_of_body k) ≡ r → 2 * length (field_tags (or_else p 3 (or_else q 4 (or_else r 5 (or_else s 3 (body_at job (at + 3) k)))))) ≤ length_at job at
      go true true true true e = omega (arith, eqb-true (length_at job at) (length_of_body k) e, tags-body k (number_at job (at + 3)) (number_at job (at + 3 + 2)) (number_at job (at + 3 + 4)) (number_at job (at + 3 + 6)))
      go true true true false e = omega arith
      go true true false s e = omega arith
      go true false r s e = omega arith
      go false q r s e = omega arith

-- A field passes its limits, or is refused at a place within its tags.
tagged-either : (N n : ℕ) (ts : List ℕ) (f : Field) → (tagged N n ts f ≡ f) ⊎ ((i : ℕ) × (i < length ts) × (tagged N n ts f ≡ bad (n + i)))
tagged-either N n [] f = inl refl
tagged-either N n (t ∷ ts) f = go (ltb t N) (tagged-either N (suc n) ts f)
  where
    go : (b : Bool) → (tagged N (suc n) ts f ≡ f) ⊎ ((i : ℕ) × (i < length ts) × (tagged N (suc n) ts f ≡ bad (suc n + i))) → (or_else b n (tagged N (suc n) ts f) ≡ f) ⊎ ((i : ℕ) × (i < length (t ∷ ts)) × (or_else b n (tagged N (suc n) ts f) ≡ bad (n + i)))
    go true (inl e) = inl e
    go true (inr e) = let q : suc n + e.0 ≡ n + suc e.0 = omega arith in inr (suc e.0, omega (arith, e.1), e.2 ∙ ap bad q)
    go false r = let q : n ≡ n + 0 = omega arith in inr (0, omega arith, ap bad q)

-- The place of a tag's refusal is within the tags, whatever length the field states.
offset-tag : (l i L : ℕ) → i < L → L ≤ 3 → offset_of l (11 + i) < 3 + 2 * L
offset-tag l i L h m = go (ℕ_discrete i 0) (ℕ_discrete i 1) (ℕ_discrete i 2)
  where
    go : Dec (i ≡ 0) → Dec (i ≡ 1) → Dec (i ≡ 2) → offset_of l (11 + i) < 3 + 2 * L
    go (yes q) b c = let z : offset_of l (11 + i) ≡ 3 = rw q refl in omega arith
    go (no a) (yes q) c = let z : offset_of l (11 + i) ≡ 5 = rw q refl in omega arith
    go (no a) (no b) (yes q) = let z : offset_of l (11 + i) ≡ 7 = rw q refl in omega arith
    go (no a) (no b) (no c) = absurd (omega arith)

-- Its place stands inside of the field, if the field states room for its tags.
record Refused (H : Head) (b : Moment) (f : Field) : Type 0 where
  number : ℕ
  is : checked H b f ≡ bad number
  inside : (l : ℕ) → 2 * length (field_tags f) ≤ l → offset_of l number < 3 + l

checked-either : (H : Head) (b : Moment) (f : Field) → (checked H b f ≡ f) ⊎ Refused H b f
unfolding checked
checked-either H b f = go (counted b f) (sized f) (filed f) refl refl refl (tagged-either H.size 11 (field_tags f) (or_else (filed f) 17 f))
  where
    Tags : Type 0
    Tags = (tagged H.size 11 (field_tags f) (or_else (filed f) 17 f) ≡ or_else (filed f) 17 f) ⊎ ((i : ℕ) × (i < length (field_tags f)) × (tagged H.size 11 (field_tags f) (or_else (filed f) 17 f) ≡ bad (11 + i)))

    go : (p q r : Bool) → counted b f ≡ p → sized f ≡ q → filed f ≡ r → Tags → (checked H b f ≡ f) ⊎ Refused H b f
    go true true true c s d (inl e) = let z : or_else (filed f) 17 f ≡ f = rw d refl in inl (rw (c, s) (e ∙ z))
    go true true false c s d (inl e) = let z : or_else (filed f) 17 f ≡ bad 17 = rw d refl in inr (record { number = 17; is = rw (c, s) (e ∙ z); inside = λ l h. omega arith })
    go true true r c s d (inr e) = inr (record { number = 11 + e.0; is = rw (c, s) e.2; inside = λ l h. omega (arith, offset-tag l e.0 (length (field_tags f)) e.1 (tags-few f)) })
    go true false r c s d t = inr (record { number = 6; is = rw (c, s) refl; inside = λ l h. omega arith })
    go false q r c s d t = inr (record { number = 7; is = rw c refl; inside = λ l h. omega arith })

checked-bad : (H : Head) (b : Moment) (m : ℕ) → checked H b (bad m) ≡ bad m
unfolding checked
checked-bad H b m = refl

-- Reading is refused nowhere before the place that it begins at, and the walk finds nothing there either.
abbrev NotBefore : ℕ → Reading → Type 0
NotBefore at (refused n q) = at ≤ q
NotBefore at (accepted H is) = Unit {0}

abbrev Behind : ℕ → Place → Type 0
Behind at none = Unit {0}
Behind at (some p) = at ≤ p

with-both : (i : Item) (r : Reading) (p : Place) → with i (both r p) ≡ both (with i r) p
with-both i r none = refl
with-both i (refused n q) (some p) = go (ltb q p)
  where
    go : (b : Bool) → with i (cond b (refused n q) (refused 4 p)) ≡ cond b (refused n q) (refused 4 p)
    go true = refl
    go false = refl
with-both i (accepted H is) (some p) = refl

both-here : (at : ℕ) (r : Reading) → NotBefore at r → refused 4 at ≡ both r (some at)
both-here at (refused n q) h = rw (le-ltb q at h) refl
both-here at (accepted H is) h = refl

both_first : (m q at : ℕ) (p : Place) → q < at → Behind at p → refused m q ≡ both (refused m q) p
both_first m q at none l h = refl
both_first m q at (some p) l h = let o : q < p = omega arith in rw (lt-ltb q p o) refl

module _ (job : List ℕ) where
  read_low : (n : ℕ) (H : Head) (b : Moment) (at : ℕ) → NotBefore at (read_from n job H b at)
  unfolding read_from
  read_low zero H b at = omega arith
  read_low (suc n) H b at = go (checked H b (field_standing job at)) (read_low n)
    where
      up : (k : ℕ) (r : Reading) → NotBefore (at + k) r → NotBefore at r
      up k (refused m q) h = omega arith
      up k (accepted M is) h = tt

      joined : (i : Item) (r : Reading) → NotBefore at r → NotBefore at (with i r)
      joined i (refused m q) h = h
      joined i (accepted M is) h = tt

      rest : (c : Bool) → NotBefore at (cond c (accepted H []) (refused 8 (behind_at job at)))
      rest true = tt
      rest false = omega arith

      go : (f : Field) → ((H : Head) (b : Moment) (at : ℕ) → NotBefore at (read_from n job H b at)) → NotBefore at (onward (read_from n job) job H b at f)
      go (bad m) h = omega arith
      go (header M) h = up (3 + length_at job at) (read_from n job M b (behind_at job at)) (h M b (behind_at job at))
      go (item i) h = joined i (read_from n job H (after i b) (behind_at job at)) (up (3 + length_at job at) (read_from n job H (after i b) (behind_at job at)) (h H (after i b) (behind_at job at)))
      go end h = rest (leb (length job) (behind_at job at))

  walk-low : (n at : ℕ) → Behind at (apply_from n job at)
  unfolding apply_from
  walk-low zero at = tt
  walk-low (suc n) at = go (marked job at) (ends_at (field_standing job at)) (walk-low n (behind_at job at))
    where
      up : (k : ℕ) (p : Place) → Behind (at + k) p → Behind at p
      up k none h = tt
      up k (some p) h = omega arith

      go : (b c : Bool) → Behind (behind_at job at) (apply_from n job (behind_at job at)) → Behind at (cond b (some at) (cond c none (apply_from n job (behind_at job at))))
      go true c h = omega arith
      go false true h = tt
      go false false h = up (3 + length_at job at) (apply_from n job (behind_at job at)) h

  -- The walk finds nothing before the place behind a field.
  later : (n at : ℕ) (c : Bool) → Behind (behind_at job at) (cond c none (apply_from n job (behind_at job at)))
  later n at true = tt
  later n at false = walk-low n (behind_at job at)

  -- Reading in the harness profile: the other reading and the walk, together.
  pub harness-both : (n : ℕ) (H : Head) (b : Moment) (at : ℕ) → harness_from n job H b at ≡ both (read_from n job H b at) (apply_from n job at)
  unfolding harness_from read_from apply_from
  harness-both zero H b at = refl
  harness-both (suc n) H b at = go (marked job at) refl (harness-both n)
    where
      Rec : Type 0
      Rec = (H : Head) (b : Moment) (at : ℕ) → harness_from n job H b at ≡ both (read_from n job H b at) (apply_from n job at)

      on : (f : Field) → Rec → onward (harness_from n job) job H b at f ≡ both (onward (read_from n job) job H b at f) (cond (ends_at f) none (apply_from n job (behind_at job at)))
      on (bad m) h = refl
      on (header M) h = h M b (behind_at job at)
      on (item i) h = ap (with i) (h H (after i b) (behind_at job at)) ∙ with-both i (read_from n job H (after i b) (behind_at job at)) (apply_from n job (behind_at job at))
      on end h = refl

      else : Rec → (checked H b (field_standing job at) ≡ field_standing job at) ⊎ Refused H b (field_standing job at)
          → onward (harness_from n job) job H b at (checked H b (field_standing job at)) ≡ both (onward (read_from n job) job H b at (checked H b (field_standing job at))) (cond (ends_at (field_standing job at)) none (apply_from n job (behind_at job at)))
      else h (inl e) = rw e (on (field_standing job at) h)
      else h (inr e) =
          let l : at + offset_of (length_at job at) e.number < behind_at job at = omega (arith, e.inside (length_at job at) (field-long job at)) in
          rw e.is (both_first e.number (at + offset_of (length_at job at) e.number) (behind_at job at) (cond (ends_at (field_standing job at)) none (apply_from n job (behind_at job at))) l (later n at (ends_at (field_standing job at))))

      there : refused 4 (at + offset_of (length_at job at) 4) ≡ refused 4 at
      there = let z : offset_of (length_at job at) 4 ≡ 0 = refl in let q : at + offset_of (length_at job at) 4 ≡ at = omega (arith, z) in ap (λ (x : ℕ). refused 4 x) q

      go : (c : Bool) → marked job at ≡ c → Rec
          → onward (harness_from n job) job H b at (checked H b (harness_field job at)) ≡ both (onward (read_from n job) job H b at (checked H b (field_standing job at))) (cond c (some at) (cond (ends_at (field_standing job at)) none (apply_from n job (behind_at job at))))
      go true e h = rw (field-marked job at e, checked-bad H b 4) (there ∙ both-here at (onward (read_from n job) job H b at (checked H b (field_standing job at))) (read_low (suc n) H b at))
      go false e h = rw (field-else job at e) (else h (checked-either H b (field_standing job at)))

-- The whole job: this is what the code may compute.
pub harness-reading : (job : List ℕ) → harness_reading job ≡ both (reading job) (apply_from (suc (length job)) job 0)
unfolding harness_reading reading
harness-reading job = harness-both job (suc (length job)) unsized start 0

-- Whether a field is an application.
abbrev is_app : Field → Bool
is_app (bad n) = false
is_app (header M) = false
is_app (item (noted (line (eq a b) v))) = false
is_app (item (noted (line (app a b c) v))) = true
is_app (item (noted (differ a b))) = false
is_app (item (posed q)) = false
is_app end = false

no-app : (job : List ℕ) (at : ℕ) → is_app (harness_field job at) ≡ false
unfolding harness_field
no-app job at = go (leb (at + 3) (length job)) (kind_at (sheeted_in job) at (byte_at job at) (length_at job at))
  where
    last-two : (b c : Bool) (f : Field) → is_app f ≡ false → is_app (or_else b 5 (or_else c 3 f)) ≡ false
    last-two true true f e = e
    last-two true false f e = refl
    last-two false c f e = refl

    of : (k : Kind) → is_app (body_at job (at + 3) k) ≡ false → is_app (or_else (eqb (length_at job at) (length_of_body k)) 5 (or_else (leb (behind_at job at) (length job)) 3 (body_at job (at + 3) k))) ≡ false
    of k e = last-two (eqb (length_at job at) (length_of_body k)) (leb (behind_at job at) (length job)) (body_at job (at + 3) k) e

    go : (b : Bool) (k : Kind) → is_app (or_else b 3 (field_of_kind job at (harness_kind k))) ≡ false
    go true first = of first refl
    go true first-units = of first-units refl
    go true first-sheets = of first-sheets refl
    go true record-eq = of record-eq refl
    go true sheeted-eq = of sheeted-eq refl
    go true record-app = refl
    go true sheeted-app = refl
    go true note-differ = of note-differ refl
    go true question-ask = of question-ask refl
    go true question-explain = of question-explain refl
    go true question-broken = of question-broken refl
    go true question-why = of question-why refl
    go true last = of last refl
    go true unknown = refl
    go false k = refl

-- A field of kind 02 with three bytes there is an application or refused.
app-or-bad : (job : List ℕ) (at : ℕ) → marked job at ≡ true → (is_app (field_standing job at) ≡ true) ⊎ ((m : ℕ) × (field_standing job at ≡ bad m))
unfolding marked field_standing
app-or-bad job at = go (leb (at + 3) (length job)) (kind_at (sheeted_in job) at (byte_at job at) (length_at job at))
  where
    tests : (b c : Bool) (f : Field) → is_app f ≡ true → (is_app (or_else b 5 (or_else c 3 f)) ≡ true) ⊎ ((m : ℕ) × (or_else b 5 (or_else c 3 f) ≡ bad m))
    tests true true f e = inl e
    tests true false f e = inr (3, refl)
    tests false c f e = inr (5, refl)

    go : (b : Bool) (k : Kind) → (b && is_apply k) ≡ true → (is_app (or_else b 3 (field_of_kind job at k)) ≡ true) ⊎ ((m : ℕ) × (or_else b 3 (field_of_kind job at k) ≡ bad m))
    go true record-app e = tests (eqb (length_at job at) (length_of_body record-app)) (leb (behind_at job at) (length job)) (body_at job (at + 3) record-app) refl
    go true sheeted-app e = tests (eqb (length_at job at) (length_of_body sheeted-app)) (leb (behind_at job at) (length job)) (body_at job (at + 3) sheeted-app) refl
    go true first e = let z : ◌≡◌ {A = ℕ} 0 1 = cc e in absurd (omega arith)
    go true first-units e = let z : ◌≡◌ {A = ℕ} 0 1 = cc e in absurd (omega arith)
    go true first-sheets e = let z : ◌≡◌ {A = ℕ} 0 1 = cc e in absurd (omega arith)
    go true record-eq e = let z : ◌≡◌ {A = ℕ} 0 1 = cc e in absurd (omega arith)
    go true sheeted-eq e = let z : ◌≡◌ {A = ℕ} 0 1 = cc e in absurd (omega arith)
    go true note-differ e = let z : ◌≡◌ {A = ℕ} 0 1 = cc e in absurd (omega arith)
    go true question-ask e = let z : ◌≡◌ {A = ℕ} 0 1 = cc e in absurd (omega arith)
    go true question-explain e = let z : ◌≡◌ {A = ℕ} 0 1 = cc e in absurd (omega arith)
    go true question-broken e = let z : ◌≡◌ {A = ℕ} 0 1 = cc e in absurd (omega arith)
    go true question-why e = let z : ◌≡◌ {A = ℕ} 0 1 = cc e in absurd (omega arith)
    go true last e = let z : ◌≡◌ {A = ℕ} 0 1 = cc e in absurd (omega arith)
    go true unknown e = let z : ◌≡◌ {A = ℕ} 0 1 = cc e in absurd (omega arith)
    go false k e = let z : ◌≡◌ {A = ℕ} 0 1 = cc e in absurd (omega arith)

-- An accepted rest behind an item.
record Rest (i : Item) (r : Reading) (M : Head) (is : List Item) : Type 0 where
  left : List Item
  reads : r ≡ accepted M left
  all : is ≡ i ∷ left

with_rest : (i : Item) (r : Reading) (M : Head) (is : List Item) → with i r ≡ accepted M is → Rest i r M is
with_rest i (refused n q) M is e = let z : ◌≡◌ {A = ℕ} 0 1 = cc e in absurd (omega arith)
with_rest i (accepted N left) M is e = let q : N ≡ M = cc e in record { left = left; reads = ap (λ (k : Head). accepted k left) q; all = cc e }

behind-none : (job : List ℕ) (H : Head) (at : ℕ) (M : Head) (is : List Item) → behind job H at ≡ accepted M is → is ≡ []
behind-none job H at M is = go (leb (length job) at)
  where
    go : (b : Bool) → cond b (accepted H []) (refused 8 at) ≡ accepted M is → is ≡ []
    go true e = cc e
    go false e = let z : ◌≡◌ {A = ℕ} 0 1 = cc e in absurd (omega arith)

none-bad : {m q : ℕ} {M : Head} {is : List Item} → refused m q ≡ accepted M is → ⊥
none-bad e = let z : ◌≡◌ {A = ℕ} 0 1 = cc e in omega arith

module _ (job : List ℕ) where
  -- What the profile accepts has no application, ..
  accepted-no-app : (n : ℕ) (H : Head) (b : Moment) (at : ℕ) (M : Head) (is : List Item) → harness_from n job H b at ≡ accepted M is → Equations is
  unfolding harness_from
  accepted-no-app zero H b at M is e = absurd (none-bad e)
  accepted-no-app (suc n) H b at M is e = pick (checked-either H b (harness_field job at)) (accepted-no-app n) e
    where
      Rec : Type 0
      Rec = (H : Head) (b : Moment) (at : ℕ) (M : Head) (is : List Item) → harness_from n job H b at ≡ accepted M is → Equations is

      go : (f : Field) → is_app f ≡ false → Rec → onward (harness_from n job) job H b at f ≡ accepted M is → Equations is
      go (bad m) a h e = absurd (none-bad e)
      go (header K) a h e = h K b (behind_at job at) M is e
      go (item (noted (line (eq x y) v))) a h e =
          let r = with_rest (noted (line (eq x y) v)) (harness_from n job H (after (noted (line (eq x y) v)) b) (behind_at job at)) M is e in
          rw r.all (h H (after (noted (line (eq x y) v)) b) (behind_at job at) M r.left r.reads)
      go (item (noted (line (app x y z) v))) a h e = let o : ◌≡◌ {A = ℕ} 0 1 = cc a in absurd (omega arith)
      go (item (noted (differ x y))) a h e =
          let r = with_rest (noted (differ x y)) (harness_from n job H (after (noted (differ x y)) b) (behind_at job at)) M is e in
          rw r.all (h H (after (noted (differ x y)) b) (behind_at job at) M r.left r.reads)
      go (item (posed q)) a h e =
          let r = with_rest (posed q) (harness_from n job H (after (posed q) b) (behind_at job at)) M is e in
          rw r.all (h H (after (posed q) b) (behind_at job at) M r.left r.reads)
      go end a h e = rw (behind-none job H (behind_at job at) M is e) tt

      pick : (checked H b (harness_field job at) ≡ harness_field job at) ⊎ Refused H b (harness_field job at) → Rec → onward (harness_from n job) job H b at (checked H b (harness_field job at)) ≡ accepted M is → Equations is
      pick (inl q) h e = go (harness_field job at) (no-app job at) h (rw q at e)
      pick (inr q) h e = absurd (none-bad (rw q.is at e))

  -- .. and on a job that is accepted and has none, the walk finds none.
  plain-no-mark : (n : ℕ) (H : Head) (b : Moment) (at : ℕ) (M : Head) (is : List Item) → read_from n job H b at ≡ accepted M is → Equations is → apply_from n job at ≡ none
  unfolding read_from apply_from
  plain-no-mark zero H b at M is e p = refl
  plain-no-mark (suc n) H b at M is e p = top (checked-either H b (field_standing job at)) (plain-no-mark n) e p
    where
      Rec : Type 0
      Rec = (H : Head) (b : Moment) (at : ℕ) (M : Head) (is : List Item) → read_from n job H b at ≡ accepted M is → Equations is → apply_from n job at ≡ none

      on : (f : Field) → Rec → onward (read_from n job) job H b at f ≡ accepted M is → Equations is → cond (ends_at f) none (apply_from n job (behind_at job at)) ≡ none
      on (bad m) h e p = refl
      on (header K) h e p = h K b (behind_at job at) M is e p
      on (item (noted (line (eq x y) v))) h e p =
          let r = with_rest (noted (line (eq x y) v)) (read_from n job H (after (noted (line (eq x y) v)) b) (behind_at job at)) M is e in
          h H (after (noted (line (eq x y) v)) b) (behind_at job at) M r.left r.reads (rw r.all at p)
      on (item (noted (line (app x y z) v))) h e p =
          let r = with_rest (noted (line (app x y z) v)) (read_from n job H (after (noted (line (app x y z) v)) b) (behind_at job at)) M is e in
          absurd (rw r.all at p)
      on (item (noted (differ x y))) h e p =
          let r = with_rest (noted (differ x y)) (read_from n job H (after (noted (differ x y)) b) (behind_at job at)) M is e in
          h H (after (noted (differ x y)) b) (behind_at job at) M r.left r.reads (rw r.all at p)
      on (item (posed q)) h e p =
          let r = with_rest (posed q) (read_from n job H (after (posed q) b) (behind_at job at)) M is e in
          h H (after (posed q) b) (behind_at job at) M r.left r.reads (rw r.all at p)
      on end h e p = refl

      isapp : (f : Field) → is_app f ≡ true → onward (read_from n job) job H b at f ≡ accepted M is → Equations is → ⊥
      isapp (bad m) a e p = none-bad e
      isapp (header K) a e p = let z : ◌≡◌ {A = ℕ} 0 1 = cc a in omega arith
      isapp (item (noted (line (eq x y) v))) a e p = let z : ◌≡◌ {A = ℕ} 0 1 = cc a in omega arith
      isapp (item (noted (line (app x y z) v))) a e p =
          let r = with_rest (noted (line (app x y z) v)) (read_from n job H (after (noted (line (app x y z) v)) b) (behind_at job at)) M is e in
          rw r.all at p
      isapp (item (noted (differ x y))) a e p = let z : ◌≡◌ {A = ℕ} 0 1 = cc a in omega arith
      isapp (item (posed q)) a e p = let z : ◌≡◌ {A = ℕ} 0 1 = cc a in omega arith
      isapp end a e p = let z : ◌≡◌ {A = ℕ} 0 1 = cc a in omega arith

      mark : (is_app (field_standing job at) ≡ true) ⊎ ((m : ℕ) × (field_standing job at ≡ bad m)) → onward (read_from n job) job H b at (field_standing job at) ≡ accepted M is → Equations is → ⊥
      mark (inl a) e p = isapp (field_standing job at) a e p
      mark (inr a) e p = none-bad (rw a.1 at e)

      go : (c : Bool) → marked job at ≡ c → Rec → onward (read_from n job) job H b at (field_standing job at) ≡ accepted M is → Equations is → cond c (some at) (cond (ends_at (field_standing job at)) none (apply_from n job (behind_at job at))) ≡ none
      go true q h e p = absurd (mark (app-or-bad job at q) e p)
      go false q h e p = on (field_standing job at) h e p

      top : (checked H b (field_standing job at) ≡ field_standing job at) ⊎ Refused H b (field_standing job at) → Rec → onward (read_from n job) job H b at (checked H b (field_standing job at)) ≡ accepted M is → Equations is
          → cond (marked job at) (some at) (cond (ends_at (field_standing job at)) none (apply_from n job (behind_at job at))) ≡ none
      top (inl q) h e p = go (marked job at) refl h (rw q at e) p
      top (inr q) h e p = absurd (none-bad (rw q.is at e))

both-accepted : (r : Reading) (p : Place) (H : Head) (is : List Item) → both r p ≡ accepted H is → r ≡ accepted H is
both-accepted r none H is e = e
both-accepted (refused n q) (some p) H is e = go (ltb q p) e
  where
    go : (b : Bool) → cond b (refused n q) (refused 4 p) ≡ accepted H is → refused n q ≡ accepted H is
    go true e = e
    go false e = absurd (none-bad e)
both-accepted (accepted M js) (some p) H is e = absurd (none-bad e)

-- The bridge: the profile accepts exactly what the other reading accepts with equations for its records.
pub harness-accepted : (job : List ℕ) (H : Head) (is : List Item) → (harness_reading job ≡ accepted H is) ↔ ((reading job ≡ accepted H is) × Equations is)
unfolding harness_reading reading
harness-accepted job H is = (
  λ e. (both-accepted (reading job) (apply_from (suc (length job)) job 0) H is (sym (harness-reading job) ∙ e), accepted-no-app job (suc (length job)) unsized start 0 H is e),
  λ h. harness-reading job ∙ rw (plain-no-mark job (suc (length job)) unsized start 0 H is h.0 h.1) h.0,
)
