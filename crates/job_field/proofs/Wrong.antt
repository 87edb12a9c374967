-- A refusal by 11, 12 or 13 tells the first tag of its field that is N or more, and one by 17 a sheet above 9,999.
-- The tags of a field are the numbers of its body, and they are tested one after the other.
-- Assumes nothing.
use Prim.Native.Nat.{ℕ, zero, suc, ◌+◌, ◌*◌, ◌≤◌, ◌<◌}
use native.Mathlib.Omega.{arith}
use mathlib.Core.Path.{◌≡◌, refl, sym, ◌∙◌, ap, subst}
use mathlib.Core.Bool.{Bool, true, false, cond}
use mathlib.Core.List.{List, [], ◌∷◌}
use mathlib.Core.Logic.{◌⊎◌, inl, inr}
use borrow.Author.Tests.{ne_eqb, ltb-true, ltb-false, leb-false}
use lib.Dec.{eqb, ltb, leb}
use lib.ListN.{length}
use Rattle.meaning.specs.Following.{Rec}
use Rattle.meaning.specs.Limits.{most_sheet}
use Rattle.job_field.specs.Items.{Head, unsized, Moment, start, after, Item, noted, posed, line, differ, tags_of, tags_of_record, refused, accepted}
use Rattle.job_field.specs.Reading.{Kind, first, first-units, first-sheets, record-eq, record-app, sheeted-eq, sheeted-app, note-differ, question-ask, question-explain, question-broken, question-why, last, unknown, Field, bad, header, item, end, number_at, byte_at, length_at, length_of_body, kind_later, kind_by_edition, body_at, kind_at, sheeted_in, behind_at, or_else, field_standing, counted, sized, filed, field_tags, tagged, checked, offset_of, behind, onward, read_from, reading}
use Rattle.job_field.specs.Standing.{Below}
use Rattle.job_field.specs.Wrong.{Wrong, Unfiled}
use Rattle.job_field.proofs.Reading.{field-passed, checked-passed, header-first}
use Rattle.job_field.proofs.Numbers.{or-bad, field-bad, tags-few, with-refused}
use Rattle.job_field.proofs.Standing.{no-item-first, edition-first}

-- Numbers that stand one behind the other from a place on.
abbrev Listed : List ℕ → ℕ → List ℕ → Type 0
Listed job at [] = Unit {0}
Listed job at (t ∷ ts) = (t ≡ number_at job at) × Listed job (at + 2) ts

body-tags : (job : List ℕ) (at : ℕ) (k : Kind) → Listed job at (field_tags (body_at job at k))
body-tags job at first = tt
body-tags job at first-units = tt
body-tags job at first-sheets = tt
body-tags job at record-eq = (refl, (refl, tt))
body-tags job at record-app = let e : at + 2 + 2 ≡ at + 4 = omega arith in (refl, (refl, (rw e, tt)))
body-tags job at sheeted-eq = (refl, (refl, tt))
body-tags job at sheeted-app = let e : at + 2 + 2 ≡ at + 4 = omega arith in (refl, (refl, (rw e, tt)))
body-tags job at note-differ = (refl, (refl, tt))
body-tags job at question-ask = (refl, (refl, tt))
body-tags job at question-explain = (refl, (refl, tt))
body-tags job at question-broken = tt
body-tags job at question-why = (refl, (refl, tt))
body-tags job at last = tt
body-tags job at unknown = tt

field-tags : (job : List ℕ) (at : ℕ) (i : Item) → field_standing job at ≡ item i → Listed job (at + 3) (tags_of i)
field-tags job at i e = subst (λ (f : Field). Listed job (at + 3) (field_tags f)) (field-passed job at (item i) tt e).is (body-tags job (at + 3) (kind_at (sheeted_in job) at (byte_at job at) (length_at job at)))

-- The first of the numbers from a place on that is N or more, counted from nought.
record First (job : List ℕ) (N at n count m : ℕ) : Type 0 where
  which : ℕ
  there : which < count
  number : m ≡ n + which
  wrong : N ≤ number_at job (at + 2 * which)
  before : (k : ℕ) → k < which → number_at job (at + 2 * k) < N

further : (job : List ℕ) (N at : ℕ) (l : ℕ) → number_at job at < N → ((k : ℕ) → k < l → number_at job (at + 2 + 2 * k) < N) → (k : ℕ) → k < suc l → number_at job (at + 2 * k) < N
further job N at l h f zero b = let e : at + 2 * 0 ≡ at = omega arith in rw e h
further job N at l h f (suc k) b = let e : at + 2 * suc k ≡ at + 2 + 2 * k = omega arith in rw e (f k (omega arith))

tagged-first : (job : List ℕ) (N at n : ℕ) (ts : List ℕ) (f : Field) (m : ℕ) → Listed job at ts → (f ≡ bad m → ⊥) → tagged N n ts f ≡ bad m → First job N at n (length ts) m
tagged-first job N at n [] f m w h e = absurd (h e)
tagged-first job N at n (t ∷ ts) f m w h e = go (ltb t N) refl e (tagged-first job N (at + 2) (suc n) ts f m w.1 h)
  where
    go : (c : Bool) → ltb t N ≡ c → or_else c n (tagged N (suc n) ts f) ≡ bad m → (tagged N (suc n) ts f ≡ bad m → First job N (at + 2) (suc n) (length ts) m) → First job N at n (suc (length ts)) m
    go true l e' rest =
        let r = rest e' in
        let i : at + 2 * suc r.which ≡ at + 2 + 2 * r.which = omega arith in
        record {
          which = suc r.which;
          there = omega (arith, r.there);
          number = omega (arith, r.number);
          wrong = rw i r.wrong;
          before = further job N at r.which (rw (← w.0) (ltb-true t N l)) r.before;
        }
    go false l e' rest =
        let q : n ≡ m = cc in
        let i : at + 2 * 0 ≡ at = omega arith in
        record { which = 0; there = omega arith; number = omega (arith, q); wrong = rw (i, ← w.0) (ltb-false t N l); before = λ k b. absurd (omega arith) }

-- A field that is refused by 11 or more.
record Refused (job : List ℕ) (N at m : ℕ) : Type 0 where
  said : Item
  field : field_standing job at ≡ item said
  first : First job N (at + 3) 11 (length (tags_of said)) m

checked-first : (job : List ℕ) (H : Head) (b : Moment) (at m : ℕ) → checked H b (field_standing job at) ≡ bad m → 11 ≤ m → m ≤ 13 → Refused job H.size at m
unfolding checked
checked-first job H b at m = go (field_standing job at) refl
  where
    P : ℕ → Type 0
    P x = 11 ≤ x → x ≤ 13 → Refused job H.size at x

    no-sheet : (j : Item) (c : Bool) → or_else c 17 (item j) ≡ bad m → m ≤ 13 → ⊥
    no-sheet j true e l = let z : ◌≡◌ {A = ℕ} 0 1 = cc in omega arith
    no-sheet j false e l = let q : 17 ≡ m = cc in omega arith

    go : (g : Field) → field_standing job at ≡ g → checked H b g ≡ bad m → 11 ≤ m → m ≤ 13 → Refused job H.size at m
    go (bad n) i e l u = let q : n ≡ m = cc in absurd (omega (arith, (field-bad job at n i).1))
    go (header M) i e l u = or-bad P (sized (header M)) 6 m (header M) (λ k. absurd (omega arith)) (λ k. let z : ◌≡◌ {A = ℕ} 0 1 = cc in absurd (omega arith)) e l u
    go (item j) i e l u = or-bad P (counted b (item j)) 7 m _ (λ k. absurd (omega arith))
        (λ k x y. record { said = j; field = i; first = tagged-first job H.size (at + 3) 11 (tags_of j) (or_else (filed (item j)) 17 (item j)) m (field-tags job at j i) (λ e'. no-sheet j (filed (item j)) e' y) k }) e l u
    go end i e l u = let z : ◌≡◌ {A = ℕ} 0 1 = cc in absurd (omega arith)

-- The place of the tag at fault.
offset-tag : (l m which : ℕ) → m ≡ 11 + which → which < 3 → offset_of l m ≡ 3 + 2 * which
offset-tag l m zero e h = rw e
offset-tag l m (suc zero) e h = rw e
offset-tag l m (suc (suc zero)) e h = rw e
offset-tag l m (suc (suc (suc k))) e h = absurd (omega arith)

refused-wrong : (job : List ℕ) (H : Head) (at m : ℕ) → field_standing job 0 ≡ header H → Refused job H.size at m → Wrong job m (at + offset_of (length_at job at) m)
refused-wrong job H at m h r =
    let f = r.first in
    let few : f.which < 3 = omega (arith, f.there, tags-few (item r.said)) in
    let e : at + offset_of (length_at job at) m ≡ at + 3 + 2 * f.which = ap (λ k. at + k) (offset-tag (length_at job at) m f.which f.number few) ∙ omega arith in
    record { head = H; first = h; at = at; said = r.said; field = r.field; which = f.which; there = f.there; number = f.number; place = e; wrong = rw e f.wrong; before = f.before }

behind-number : (job : List ℕ) (H : Head) (at n p : ℕ) → behind job H at ≡ refused n p → 11 ≤ n → ⊥
behind-number job H at n p e l = go (leb (length job) at) e
  where
    go : (b : Bool) → cond b (accepted H []) (refused 8 at) ≡ refused n p → ⊥
    go true e = let z : ◌≡◌ {A = ℕ} 0 1 = cc in omega arith
    go false e = let q : 8 ≡ n = cc in omega arith

-- A refusal by 11 or more comes from a field behind the first one.
record From (job : List ℕ) (n p : ℕ) : Type 0 where
  head : Head
  first : field_standing job 0 ≡ header head
  moment : Moment
  at : ℕ
  later : 0 < at
  fault : checked head moment (field_standing job at) ≡ bad n
  place : p ≡ at + offset_of (length_at job at) n

module _ (job : List ℕ) (H : Head) (h : field_standing job 0 ≡ header H) where
  read-from : (f : ℕ) (b : Moment) (at n p : ℕ) → 0 < at → read_from f job H b at ≡ refused n p → 11 ≤ n → From job n p
  unfolding read_from
  read-from zero b at n p a e l = let q : 3 ≡ n = cc in absurd (omega arith)
  read-from (suc f) b at n p a e l = go (λ b' at'. read-from f b' at' n p) (checked H b (field_standing job at)) refl e
    where
      go : ((b' : Moment) (at' : ℕ) → 0 < at' → read_from f job H b' at' ≡ refused n p → 11 ≤ n → From job n p) → (g : Field) → checked H b (field_standing job at) ≡ g → onward (read_from f job) job H b at g ≡ refused n p → From job n p
      go ih (bad m) c e = let q : m ≡ n = cc in let o : at + offset_of (length_at job at) m ≡ p = cc in record { head = H; first = h; moment = b; at = at; later = a; fault = rw (← q) c; place = rw (← q) (sym o) }
      go ih (header M) c e = absurd (header-first job at M a (checked-passed H b (field_standing job at) (header M) tt c).is)
      go ih (item i) c e = ih (after i b) (behind_at job at) (omega arith) (with-refused i _ n p e) l
      go ih end c e = absurd (behind-number job H (behind_at job at) n p e l)

-- No tag and no sheet stands in the first field.
first-early : (job : List ℕ) (m : ℕ) → checked unsized start (field_standing job 0) ≡ bad m → 11 ≤ m → ⊥
unfolding checked
first-early job m e l = go (field_standing job 0) refl e
  where
    go : (g : Field) → field_standing job 0 ≡ g → checked unsized start g ≡ bad m → ⊥
    go (bad n) i e = let q : n ≡ m = cc in omega (arith, (field-bad job 0 n i).1)
    go (header M) i e = or-bad (λ (x : ℕ). 11 ≤ x → ⊥) (sized (header M)) 6 m (header M) (λ k. omega arith) (λ k. let z : ◌≡◌ {A = ℕ} 0 1 = cc in absurd (omega arith)) e l
    go (item i) j e = no-item-first job i j
    go end i e = let z : ◌≡◌ {A = ℕ} 0 1 = cc in omega arith

refused-from : (job : List ℕ) (n p : ℕ) → reading job ≡ refused n p → 11 ≤ n → From job n p
unfolding reading read_from
refused-from job n p e l = go (checked unsized start (field_standing job 0)) refl e
  where
    go : (g : Field) → checked unsized start (field_standing job 0) ≡ g → onward (read_from (length job) job) job unsized start 0 g ≡ refused n p → From job n p
    go (bad m) c e = let q : m ≡ n = cc in absurd (first-early job m c (omega arith))
    go (header M) c e = read-from job M (checked-passed unsized start (field_standing job 0) (header M) tt c).is (length job) start (behind_at job 0) n p (omega arith) e l
    go (item i) c e = absurd (no-item-first job i (checked-passed unsized start (field_standing job 0) (item i) tt c).is)
    go end c e = absurd (behind-number job unsized (behind_at job 0) n p e l)

-- Which number was wrong: a refusal of a whole job by 11, 12 or 13.
pub which-wrong : (job : List ℕ) (n p : ℕ) → reading job ≡ refused n p → 11 ≤ n → n ≤ 13 → Wrong job n p
which-wrong job n p e l u =
    let f = refused-from job n p e l in
    rw f.place (refused-wrong job f.head f.at n f.first (checked-first job f.head f.moment f.at n f.fault l u))

-- The sheet that a field says; 0 where it says none.
abbrev sheet_said : Field → ℕ
sheet_said (bad n) = 0
sheet_said (header M) = 0
sheet_said (item (noted (line r h))) = h
sheet_said (item (noted (differ a b))) = 0
sheet_said (item (posed q)) = 0
sheet_said end = 0

-- It is the last number of the body, and there is one in edition 2 alone.
body-sheet : (job : List ℕ) (at : ℕ) (k : Kind) → (sheet_said (body_at job (at + 3) k) ≡ 0) ⊎ (sheet_said (body_at job (at + 3) k) ≡ number_at job (at + (length_of_body k + 1)))
body-sheet job at first = inl refl
body-sheet job at first-units = inl refl
body-sheet job at first-sheets = inl refl
body-sheet job at record-eq = inl refl
body-sheet job at record-app = inl refl
body-sheet job at sheeted-eq = let e : at + 3 + 4 ≡ at + 7 = omega arith in inr (rw e)
body-sheet job at sheeted-app = let e : at + 3 + 6 ≡ at + 9 = omega arith in inr (rw e)
body-sheet job at note-differ = inl refl
body-sheet job at question-ask = inl refl
body-sheet job at question-explain = inl refl
body-sheet job at question-broken = inl refl
body-sheet job at question-why = inl refl
body-sheet job at last = inl refl
body-sheet job at unknown = inl refl

record Plain (job : List ℕ) (at : ℕ) (k : Kind) : Type 0 where
  says : sheet_said (body_at job at k) ≡ 0

plain-later : (job : List ℕ) (at b : ℕ) → Plain job at (kind_later b)
plain-later job at b = or (eqb b 1) record-eq refl (or (eqb b 2) record-app refl (or (eqb b 3) question-ask refl (or (eqb b 4) question-explain refl (or (eqb b 5) note-differ refl (or (eqb b 6) question-broken refl (or (eqb b 7) question-why refl (or (eqb b 127) last refl (record { says = refl }))))))))
  where
    or : {l : Kind} (p : Bool) (k : Kind) → sheet_said (body_at job at k) ≡ 0 → Plain job at l → Plain job at (cond p k l)
    or true k h i = record { says = h }
    or false k h i = i

-- A field that is refused by 17.
record Above (job : List ℕ) (N at : ℕ) : Type 0 where
  said : Rec
  sheet : ℕ
  field : field_standing job at ≡ item (noted (line said sheet))
  wrong : most_sheet < sheet
  tags : Below N (tags_of_record said)

tagged-sheet : (N n : ℕ) (ts : List ℕ) (f : Field) → n + length ts ≤ 14 → tagged N n ts f ≡ bad 17 → Below N ts × (f ≡ bad 17)
tagged-sheet N n [] f l e = (tt, e)
tagged-sheet N n (t ∷ ts) f l e = go (ltb t N) refl e (tagged-sheet N (suc n) ts f)
  where
    go : (c : Bool) → ltb t N ≡ c → or_else c n (tagged N (suc n) ts f) ≡ bad 17 → (suc n + length ts ≤ 14 → tagged N (suc n) ts f ≡ bad 17 → Below N ts × (f ≡ bad 17)) → ((t < N) × Below N ts) × (f ≡ bad 17)
    go true i e' ih = let r = ih (omega arith) e' in ((ltb-true t N i, r.0), r.1)
    go false i e' ih = let q : n ≡ 17 = cc in absurd (omega arith)

checked-above : (job : List ℕ) (H : Head) (b : Moment) (at : ℕ) → checked H b (field_standing job at) ≡ bad 17 → Above job H.size at
unfolding checked
checked-above job H b at = go (field_standing job at) refl
  where
    P : ℕ → Type 0
    P x = x ≡ 17 → Above job H.size at

    go : (g : Field) → field_standing job at ≡ g → checked H b g ≡ bad 17 → Above job H.size at
    go (bad n) i e = let q : n ≡ 17 = cc in absurd (omega (arith, (field-bad job at n i).1))
    go (header M) i e = or-bad P (sized (header M)) 6 17 (header M) (λ k. absurd (omega arith)) (λ k. let z : ◌≡◌ {A = ℕ} 0 1 = cc in absurd (omega arith)) e refl
    go (item (noted (line r h))) i e = or-bad P (counted b (item (noted (line r h)))) 7 17 _ (λ k. absurd (omega arith))
        (λ k q. above r h i (tagged-sheet H.size 11 (tags_of_record r) (or_else (leb h most_sheet) 17 (item (noted (line r h)))) (omega (arith, tags-few (item (noted (line r h))))) k)) e refl
      where
        last-test : (r : Rec) (h : ℕ) (c : Bool) → leb h most_sheet ≡ c → or_else c 17 (item (noted (line r h))) ≡ bad 17 → most_sheet < h
        last-test r h true x e' = let z : ◌≡◌ {A = ℕ} 0 1 = cc in absurd (omega arith)
        last-test r h false x e' = leb-false h most_sheet x

        above : (r : Rec) (h : ℕ) → field_standing job at ≡ item (noted (line r h)) → Below H.size (tags_of_record r) × (or_else (leb h most_sheet) 17 (item (noted (line r h))) ≡ bad 17) → Above job H.size at
        above r h i t = record { said = r; sheet = h; field = i; wrong = last-test r h (leb h most_sheet) refl t.1; tags = t.0 }
    go (item (noted (differ x y))) i e = or-bad P (counted b (item (noted (differ x y)))) 7 17 _ (λ k. absurd (omega arith))
        (λ k q. let t = tagged-sheet H.size 11 (x ∷ y ∷ []) (item (noted (differ x y))) (omega arith) k in let u : item (noted (differ x y)) ≡ bad 17 = t.1 in let z : ◌≡◌ {A = ℕ} 0 1 = cc in absurd (omega arith)) e refl
    go (item (posed q)) i e = or-bad P (counted b (item (posed q))) 7 17 _ (λ k. absurd (omega arith))
        (λ k x. let t = tagged-sheet H.size 11 (tags_of (posed q)) (item (posed q)) (omega (arith, tags-few (item (posed q)))) k in let u : item (posed q) ≡ bad 17 = t.1 in let z : ◌≡◌ {A = ℕ} 0 1 = cc in absurd (omega arith)) e refl
    go end i e = let z : ◌≡◌ {A = ℕ} 0 1 = cc in absurd (omega arith)

-- Where a field says a sheet: the last number of its body, in edition 2.
record Sheet (job : List ℕ) (at h : ℕ) : Type 0 where
  is : h ≡ number_at job (at + (length_at job at + 1))
  edition : sheeted_in job ≡ true

sheet-there : (job : List ℕ) (at : ℕ) (r : Rec) (h : ℕ) → 0 < at → 0 < h → field_standing job at ≡ item (noted (line r h)) → Sheet job at h
sheet-there job at r h a s e =
    let w = field-passed job at (item (noted (line r h))) tt e in
    let k = kind_at (sheeted_in job) at (byte_at job at) (length_at job at) in
    let i : sheet_said (body_at job (at + 3) k) ≡ h = ap sheet_said w.is in
    record { is = number k i w.length (body-sheet job at k); edition = second (sheeted_in job) refl (rw (ne_eqb at 0 (omega arith)) at i) }
  where
    number : (k : Kind) → sheet_said (body_at job (at + 3) k) ≡ h → length_at job at ≡ length_of_body k → (sheet_said (body_at job (at + 3) k) ≡ 0) ⊎ (sheet_said (body_at job (at + 3) k) ≡ number_at job (at + (length_of_body k + 1))) → h ≡ number_at job (at + (length_at job at + 1))
    number k i l (inl z) = absurd (omega arith)
    number k i l (inr y) = rw l (sym i ∙ y)

    second : (c : Bool) → sheeted_in job ≡ c → sheet_said (body_at job (at + 3) (kind_by_edition c (byte_at job at))) ≡ h → c ≡ true
    second true x i = refl
    second false x i = absurd (omega (arith, (plain-later job (at + 3) (byte_at job at)).says))

-- Which sheet was wrong: a refusal of a whole job by 17.
pub which-sheet : (job : List ℕ) (p : ℕ) → reading job ≡ refused 17 p → Unfiled job p
which-sheet job p e =
    let f = refused-from job 17 p e (omega arith) in
    let r = checked-above job f.head f.moment f.at f.fault in
    let s = sheet-there job f.at r.said r.sheet f.later (omega (arith, r.wrong)) r.field in
    let i : r.sheet ≡ number_at job p = s.is ∙ ap (λ (x : ℕ). number_at job x) (sym f.place) in
    record {
      head = f.head;
      first = f.first;
      edition = edition-first job f.head f.first ∙ s.edition;
      at = f.at;
      said = r.said;
      field = rw (← i) r.field;
      place = omega (arith, f.place);
      wrong = rw (← i) r.wrong;
      tags = r.tags;
    }
