-- Reading refuses by the numbers 3 to 8, 11 to 13 and 17 and by no other: each field's tests have these numbers, and what follows the end has 8.
-- Assumes nothing.
use Prim.Native.Nat.{ℕ, zero, suc, ◌+◌, ◌≤◌}
use native.Mathlib.Omega.{arith}
use mathlib.Core.Path.{◌≡◌, refl}
use mathlib.Core.Bool.{Bool, true, false, cond}
use mathlib.Core.List.{List, [], ◌∷◌}
use lib.Dec.{eqb, ltb, leb}
use lib.ListN.{length}
use Rattle.meaning.specs.Following.{eq, app}
use Rattle.job_field.specs.Items.{Head, unsized, Moment, start, line, differ, ask, explain, broken, why, noted, posed, Item, Reading, refused, accepted}
use Rattle.job_field.specs.Reading.{Kind, first, first-units, first-sheets, unknown, Field, bad, header, item, end, known, length_at, behind_at, length_of_body, body_at, or_else, field_of_kind, field_standing, kind_at, sheeted_in, byte_at, checked, counted, sized, filed, field_tags, tagged, with, behind, onward, read_from, reading}
use Rattle.job_field.proofs.Reading.{body-later}

-- The numbers of document 01's table, those of tags, and that of a sheet.
pub data InRange (n : ℕ) : Type 0 where
  early : 3 ≤ n → n ≤ 8 → InRange n
  tag : 11 ≤ n → n ≤ 13 → InRange n
  sheet : n ≡ 17 → InRange n

in_some : {n : ℕ} → InRange n → 3 ≤ n
in_some (early a b) = a
in_some (tag a b) = omega arith
in_some (sheet e) = omega arith

pub or-bad : (P : ℕ → Type 0) (b : Bool) (k m : ℕ) (f : Field) → P k → (f ≡ bad m → P m) → or_else b k f ≡ bad m → P m
or-bad P true k m f r h e = h e
or-bad P false k m f r h e = let q : k ≡ m = cc in rw (← q) r

-- The first half of the order for a field.
abbrev pub Early : ℕ → Type 0
Early n = (3 ≤ n) × (n ≤ 5)

-- The first field's kinds say N and U or nothing, and no later kind says anything else that is refused than 4.
body-bad : (job : List ℕ) (at m : ℕ) → body_at job (at + 3) (kind_at (sheeted_in job) at (byte_at job at) (length_at job at)) ≡ bad m → Early m
body-bad job zero m e = go (eqb (byte_at job 0) 16) (eqb (length_at job 0) 4) (eqb (byte_at job 0) 17) e
  where
    go : (p q s : Bool) → body_at job 3 (cond p (cond q first-units first) (cond s first-sheets unknown)) ≡ bad m → Early m
    go true true s e = let z : ◌≡◌ {A = ℕ} 0 1 = cc in absurd (omega arith)
    go true false s e = let z : ◌≡◌ {A = ℕ} 0 1 = cc in absurd (omega arith)
    go false r true e = let z : ◌≡◌ {A = ℕ} 0 1 = cc in absurd (omega arith)
    go false r false e = let q : 4 ≡ m = cc in rw (← q) (omega arith, omega arith)
body-bad job (suc n) m e = let q : m ≡ 4 = body-later job (suc n) (bad m) (omega arith) e in rw q (omega arith, omega arith)

kind-bad : (job : List ℕ) (at m : ℕ) (k : Kind) → (body_at job (at + 3) k ≡ bad m → Early m) → field_of_kind job at k ≡ bad m → Early m
kind-bad job at m k h =
    or-bad Early (known k) 4 m _ (omega arith, omega arith)
    (or-bad Early (eqb (length_at job at) (length_of_body k)) 5 m _ (omega arith, omega arith)
    (or-bad Early (leb (behind_at job at) (length job)) 3 m _ (omega arith, omega arith) h))

pub field-bad : (job : List ℕ) (at m : ℕ) → field_standing job at ≡ bad m → Early m
unfolding field_standing
field-bad job at m = or-bad Early (leb (at + 3) (length job)) 3 m _ (omega arith, omega arith) (kind-bad job at m (kind_at (sheeted_in job) at (byte_at job at) (length_at job at)) (body-bad job at m))

-- The tags of an item are three at most.
pub tags-few : (f : Field) → length (field_tags f) ≤ 3
tags-few (bad n) = omega arith
tags-few (header M) = omega arith
tags-few (item (noted (line (eq a b) h))) = omega arith
tags-few (item (noted (line (app a b c) h))) = omega arith
tags-few (item (noted (differ a b))) = omega arith
tags-few (item (posed (ask s t))) = omega arith
tags-few (item (posed (explain s t))) = omega arith
tags-few (item (posed broken)) = omega arith
tags-few (item (posed (why s t))) = omega arith
tags-few end = omega arith

tagged-bad : (N n : ℕ) (ts : List ℕ) (f : Field) (m : ℕ) → 11 ≤ n → n + length ts ≤ 14 → (f ≡ bad m → InRange m) → tagged N n ts f ≡ bad m → InRange m
tagged-bad N n [] f m l k h = h
tagged-bad N n (t ∷ ts) f m l k h = or-bad InRange (ltb t N) n m _ (tag l (omega arith)) (tagged-bad N (suc n) ts f m (omega arith) (omega arith) h)

checked-bad : (H : Head) (b : Moment) (job : List ℕ) (at m : ℕ) → checked H b (field_standing job at) ≡ bad m → InRange m
unfolding checked
checked-bad H b job at m =
    or-bad InRange (counted b (field_standing job at)) 7 m _ (early (omega arith) (omega arith))
    (or-bad InRange (sized (field_standing job at)) 6 m _ (early (omega arith) (omega arith))
    (tagged-bad H.size 11 (field_tags (field_standing job at)) (or_else (filed (field_standing job at)) 17 (field_standing job at)) m (omega arith) (omega (arith, tags-few (field_standing job at)))
    (or-bad InRange (filed (field_standing job at)) 17 m (field_standing job at) (sheet refl)
    (λ e. early (field-bad job at m e).0 (omega (arith, (field-bad job at m e).1))))))

pub with-refused : (i : Item) (X : Reading) (n p : ℕ) → with i X ≡ refused n p → X ≡ refused n p
with-refused i (refused m q) n p e = e
with-refused i (accepted H is) n p e = let z : ◌≡◌ {A = ℕ} 0 1 = cc in absurd (omega arith)

behind-refused : (job : List ℕ) (H : Head) (at n p : ℕ) → behind job H at ≡ refused n p → InRange n
behind-refused job H at n p e = go (leb (length job) at) e
  where
    go : (b : Bool) → cond b (accepted H []) (refused 8 at) ≡ refused n p → InRange n
    go true e = let z : ◌≡◌ {A = ℕ} 0 1 = cc in absurd (omega arith)
    go false e = let q : 8 ≡ n = cc in rw (← q) (early (omega arith) (omega arith))

read-refused : (f : ℕ) (job : List ℕ) (H : Head) (b : Moment) (at n p : ℕ) → read_from f job H b at ≡ refused n p → InRange n
unfolding read_from
read-refused zero job H b at n p e = let q : 3 ≡ n = cc in rw (← q) (early (omega arith) (omega arith))
read-refused (suc f) job H b at n p e = go (λ H' b' at'. read-refused f job H' b' at' n p) (checked H b (field_standing job at)) refl e
  where
    go : ((H' : Head) (b' : Moment) (at' : ℕ) → read_from f job H' b' at' ≡ refused n p → InRange n) → (g : Field) → checked H b (field_standing job at) ≡ g → onward (read_from f job) job H b at g ≡ refused n p → InRange n
    go ih (bad m) c e = let q : m ≡ n = cc in rw (← q) (checked-bad H b job at m c)
    go ih (header M) c e = ih M b (behind_at job at) e
    go ih (item i) c e = ih H _ _ (with-refused i _ n p e)
    go ih end c e = behind-refused job H (behind_at job at) n p e

pub refused-number : (job : List ℕ) (n p : ℕ) → reading job ≡ refused n p → InRange n
unfolding reading
refused-number job n p = read-refused (suc (length job)) job unsized start 0 n p

pub refused-some : (job : List ℕ) (n p : ℕ) → reading job ≡ refused n p → 3 ≤ n
refused-some job n p e = in_some (refused-number job n p e)
