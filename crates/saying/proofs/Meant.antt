-- The lines that are put for a sound report mean what document 01 says: a number of two bytes is read back as itself, whatever it is, and a
-- field says its own length, so that each line is made of the field of its own question, and the line of sheets of the field behind it.
-- Assumes nothing.
use Prim.Native.Nat.{ℕ, ◌+◌, ◌*◌, ◌/◌, ◌%◌}
use native.Mathlib.Omega.{arith}
use mathlib.Core.Path.{◌≡◌, refl, sym, subst, ◌∙◌, ap, ap₂}
use mathlib.Core.Logic.{◌≢◌}
use mathlib.Core.Bool.{Bool, true, false, cond, ◌&&◌, ◌||◌}
use mathlib.Core.List.{List, [], ◌∷◌, ◌++◌, append-nil, append_assoc}
use lib.Dec.{T, eqb, eqb→eq, eqb_refl}
use lib.ListN.{length, take, drop}
use lib.Seq.{take_at, drop_at, drop-drop}
use Rattle.meaning.specs.Following.{Follows, UpTo, Leader}
use Rattle.meaning.specs.Looks.{Led}
use Rattle.meaning.specs.Reasons.{Reason}
use Rattle.job_field.specs.Items.{Matter, Note, Moment, after, Question, ask, explain, broken, why, Item, noted, posed}
use Rattle.job_field.specs.Reading.{byte_at, number_at}
use Rattle.report.specs.Report.{two, numbers, front, field, Reasoned, because, breached, Filed, unfiled, filed, Answers, led, reasoned, apart, intact, parted, joined, Totalled, total, Sound, totals, passed, answered}
use Rattle.report.specs.Broken.{Earliest, Unbroken, PairReason}
use Rattle.report.proofs.Bytes.{length-field}
use Rattle.text_line.specs.Line.{line, ask_line}
use Rattle.text_field.specs.Fields.{numbers_in, part_of, body_of, explain_line, broken_line, why_line, question_line, field_width, behind_field, sheets_due, sheets_line, width_of, totals_line}
use Rattle.text.specs.Lines.{lines_of}
use Rattle.saying.specs.Meant.{Meant, Shelved}
use Rattle.saying.specs.Meant as means

numbers-back : (L : List ℕ) → numbers_in (numbers L) ≡ L
unfolding numbers two numbers_in
numbers-back [] = refl
numbers-back (n ∷ ns) = let p : n / 256 * 256 + n % 256 ≡ n = omega arith in rw (p, numbers-back ns)

size-at : (k : ℕ) (b x : List ℕ) → number_at (field k b ++ x) 1 ≡ length b
unfolding field front two
size-at k b x = omega arith

first-at : (k u v : ℕ) (x : List ℕ) → number_at (field k (numbers (u ∷ v ∷ [])) ++ x) 3 ≡ u
unfolding field front two numbers
first-at k u v x = omega arith

second_at : (k u v : ℕ) (x : List ℕ) → number_at (field k (numbers (u ∷ v ∷ [])) ++ x) 5 ≡ v
unfolding field front two numbers
second_at k u v x = omega arith

behind-front : (k : ℕ) (b : List ℕ) → drop 3 (field k b) ≡ b
unfolding field front two
behind-front k b = refl

body_back : (k : ℕ) (b x : List ℕ) → body_of (field k b ++ x) ≡ b
unfolding part_of
body_back k b x =
    ap (λ (n : ℕ). drop 3 (take (3 + n) (field k b ++ x))) (size-at k b x) ∙ ap (λ (l : List ℕ). drop 3 l) (take_at (field k b) x (3 + length b) (length-field k b)) ∙ behind-front k b

head_at : (k u : ℕ) (ns x : List ℕ) → number_at (field k (numbers (u ∷ ns)) ++ x) 3 ≡ u
unfolding field front two numbers
head_at k u ns x = omega arith

behind-number : (k u : ℕ) (ns : List ℕ) → drop 5 (field k (numbers (u ∷ ns))) ≡ numbers ns
unfolding field front two numbers
behind-number k u ns = refl

tail-back : (k u : ℕ) (ns x : List ℕ) → part_of 5 (field k (numbers (u ∷ ns)) ++ x) ≡ numbers ns
unfolding part_of
tail-back k u ns x =
    let b : List ℕ = numbers (u ∷ ns) in
    ap (λ (n : ℕ). drop 5 (take (3 + n) (field k b ++ x))) (size-at k b x) ∙ ap (λ (l : List ℕ). drop 5 l) (take_at (field k b) x (3 + length b) (length-field k b)) ∙ behind-number k u ns

rest_back : (k : ℕ) (b x : List ℕ) → drop (3 + number_at (field k b ++ x) 1) (field k b ++ x) ≡ x
rest_back k b x = ap (λ (n : ℕ). drop (3 + n) (field k b ++ x)) (size-at k b x) ∙ drop_at (field k b) x (3 + length b) (length-field k b)

kind_at : (k : ℕ) (b x : List ℕ) → byte_at (field k b ++ x) 0 ≡ k
unfolding field front
kind_at k b x = refl

-- The lines of a question by the field that stands first: where no field of sheets is due behind it, its own line alone; where one is, both.
lone-lines : (e : Bool) (q : Question) (k : ℕ) (b : List ℕ) (is : List Item) (x : List ℕ) → (e && (eqb k 132 || eqb k 134)) ≡ false
    → lines_of e (posed q ∷ is) (field k b ++ x) ≡ question_line q (field k b ++ x) ++ lines_of e is x
unfolding lines_of
lone-lines e q k b is x h =
    let r : List ℕ = field k b ++ x in
    let due : sheets_due e r ≡ false = ap (λ (n : ℕ). e && (eqb n 132 || eqb n 134)) (kind_at k b x) ∙ h in
    let w : width_of e (posed q) r ≡ 3 + number_at r 1 = ap (λ (c : Bool). field_width r + cond c (field_width (behind_field r)) 0) due ∙ omega arith in
    ap₂ (λ (u v : List ℕ). u ++ v)
    (ap (λ (c : Bool). question_line q r ++ cond c (sheets_line (behind_field r)) []) due ∙ append-nil (question_line q r))
    (ap (lines_of e is) (ap (λ (n : ℕ). drop n r) w ∙ rest_back k b x))

sheets-line : (c x : List ℕ) → sheets_line (field 138 c ++ x) ≡ line 72 (length (numbers_in c) ∷ numbers_in c)
unfolding sheets_line
sheets-line c x = ap (λ (l : List ℕ). line 72 (length (numbers_in l) ∷ numbers_in l)) (body_back 138 c x)

both-lines : (e : Bool) (q : Question) (k : ℕ) (b c : List ℕ) (is : List Item) (x : List ℕ) → (e && (eqb k 132 || eqb k 134)) ≡ true
    → lines_of e (posed q ∷ is) (field k b ++ (field 138 c ++ x)) ≡ (question_line q (field k b ++ (field 138 c ++ x)) ++ line 72 (length (numbers_in c) ∷ numbers_in c)) ++ lines_of e is x
unfolding lines_of
both-lines e q k b c is x h =
    let y : List ℕ = field 138 c ++ x in
    let r : List ℕ = field k b ++ y in
    let due : sheets_due e r ≡ true = ap (λ (n : ℕ). e && (eqb n 132 || eqb n 134)) (kind_at k b y) ∙ h in
    let behind : behind_field r ≡ y = rest_back k b y in
    let w : width_of e (posed q) r ≡ field_width r + field_width (behind_field r) = ap (λ (d : Bool). field_width r + cond d (field_width (behind_field r)) 0) due in
    let left : drop (field_width r + field_width (behind_field r)) r ≡ x =
    sym (drop-drop (field_width (behind_field r)) (field_width r) r) ∙ ap (λ (l : List ℕ). drop (field_width l) l) behind ∙ rest_back 138 c x in
    ap₂ (λ (u v : List ℕ). u ++ v)
    (ap (λ (d : Bool). question_line q r ++ cond d (sheets_line (behind_field r)) []) due ∙ ap (λ (l : List ℕ). question_line q r ++ sheets_line l) behind ∙ ap (λ (l : List ℕ). question_line q r ++ l) (sheets-line c x))
    (ap (lines_of e is) (ap (λ (n : ℕ). drop n r) w ∙ left))

and-false : (e : Bool) → (e && false) ≡ false
and-false true = refl
and-false false = refl

ask-line : (s t l m : ℕ) (x : List ℕ) → question_line (ask s t) (field 131 (numbers (l ∷ m ∷ [])) ++ x) ≡ ask_line s t l m
ask-line s t l m x = ap₂ (ask_line s t) (first-at 131 l m x) (second_at 131 l m x)

explain-line : (s t k : ℕ) (b x : List ℕ) → question_line (explain s t) (field k b ++ x) ≡ explain_line s t k (numbers_in b)
explain-line s t k b x = ap₂ (explain_line s t) (kind_at k b x) (ap numbers_in (body_back k b x))

breach-words : (k : ℕ) (L x : List ℕ) → question_line broken (field 134 (numbers (k ∷ L)) ++ x) ≡ broken_line 134 k L
breach-words k L x =
    let f : List ℕ = field 134 (numbers (k ∷ L)) ++ x in
    let ns : numbers_in (part_of 5 f) ≡ L = ap numbers_in (tail-back 134 k L x) ∙ numbers-back L in
    ap (λ (n : ℕ). broken_line n (number_at f 3) (numbers_in (part_of 5 f))) (kind_at 134 (numbers (k ∷ L)) x) ∙ ap₂ (broken_line 134) (head_at 134 k L x) ns

intact-words : (x : List ℕ) → question_line broken (field 135 [] ++ x) ≡ broken_line 135 (number_at (field 135 [] ++ x) 3) (numbers_in (part_of 5 (field 135 [] ++ x)))
intact-words x = let f : List ℕ = field 135 [] ++ x in ap (λ (n : ℕ). broken_line n (number_at f 3) (numbers_in (part_of 5 f))) (kind_at 135 [] x)

why-line : (s t k : ℕ) (b x : List ℕ) → question_line (why s t) (field k b ++ x) ≡ why_line s t k (numbers_in b)
why-line s t k b x = ap₂ (why_line s t) (kind_at k b x) (ap numbers_in (body_back k b x))

-- The lines of a question that is answered by one field alone, by its own line.
by-line : (e : Bool) (q : Question) (k : ℕ) (b : List ℕ) (is : List Item) (x l : List ℕ) → (eqb k 132 || eqb k 134) ≡ false → question_line q (field k b ++ x) ≡ l
    → lines_of e (posed q ∷ is) (field k b ++ x) ≡ l ++ lines_of e is x
by-line e q k b is x l h p = lone-lines e q k b is x (ap (λ (c : Bool). e && c) h ∙ and-false e) ∙ ap (λ (u : List ℕ). u ++ lines_of e is x) p

first-end : (u v : ℕ) → number_at (field 143 (numbers (u ∷ v ∷ []))) 3 ≡ u
unfolding field front two numbers
first-end u v = omega arith

second-end : (u v : ℕ) → number_at (field 143 (numbers (u ∷ v ∷ []))) 5 ≡ v
unfolding field front two numbers
second-end u v = omega arith

-- The edition of a job, and what stands behind the field of a reason, as lines.
abbrev edition : Matter → Bool
edition M = M.head.sheeted

record Lines (M : Matter) (q : Question) (L f g : List ℕ) (is : List Item) (bs : List ℕ) : Type 0 where
  more : List ℕ
  right : Shelved M L more
  are : lines_of (edition M) (posed q ∷ is) ((f ++ g) ++ bs) ≡ (question_line q (f ++ (g ++ bs)) ++ more) ++ lines_of (edition M) is bs

module _ {M : Matter} where
  meant-as : {b : Moment} {is : List Item} {x y : List ℕ} → x ≡ y → Meant M b is y → Meant M b is x
  meant-as {b} {is} p h = subst (Meant M b is) (sym p) h

  -- The line of an ask, by whether the leaders are one.
  ask-meant : {b : Moment} {s t l m : ℕ} {is : List Item} {x : List ℕ} → Leader M.head.units (UpTo M.records b.records) s l → Leader M.head.units (UpTo M.records b.records) t m
      → Meant M (after (posed (ask s t)) b) is x → Meant M b (posed (ask s t) ∷ is) (ask_line s t l m ++ x)
  unfolding ask_line
  ask-meant {b} {s} {t} {l} {m} {is} {x} h k r = go (eqb l m) refl
    where
      go : (c : Bool) → eqb l m ≡ c → Meant M b (posed (ask s t) ∷ is) (cond c (line 83 (s ∷ t ∷ l ∷ [])) (line 68 (s ∷ t ∷ l ∷ m ∷ [])) ++ x)
      go true e = let p : l ≡ m = eqb→eq l m (subst T (sym e) tt) in means.same h (subst (Leader M.head.units (UpTo M.records b.records) t) (sym p) k) r
      go false e = means.different h k (λ p. subst T (ap (eqb l) p ∙ e) (eqb_refl l)) r

  totals-meant : {b : Moment} {bs : List ℕ} → Totalled M bs → Meant M b [] (lines_of (edition M) [] bs)
  unfolding lines_of totals_line
  totals-meant (total {c} {i} h k) = meant-as (ap₂ (λ (a d : ℕ). line 84 (a ∷ d ∷ [])) (first-end c i) (second-end c i)) (means.totals h k)

  passed-meant : {b : Moment} {n : Note} {is : List Item} (bs : List ℕ) → Meant M (after (noted n) b) is (lines_of (edition M) is bs) → Meant M b (noted n ∷ is) (lines_of (edition M) (noted n ∷ is) bs)
  unfolding lines_of
  passed-meant bs h = means.passed h

  led-meant : {b : Moment} {s t l m : ℕ} {is : List Item} (bs : List ℕ) → Leader M.head.units (UpTo M.records b.records) s l → Leader M.head.units (UpTo M.records b.records) t m
      → Meant M (after (posed (ask s t)) b) is (lines_of (edition M) is bs) → Meant M b (posed (ask s t) ∷ is) (lines_of (edition M) (posed (ask s t) ∷ is) (field 131 (numbers (l ∷ m ∷ [])) ++ bs))
  led-meant {s = s} {t = t} {l = l} {m = m} {is = is} bs h k r =
      meant-as (by-line (edition M) (ask s t) 131 (numbers (l ∷ m ∷ [])) is bs (ask_line s t l m) refl (ask-line s t l m bs)) (ask-meant h k r)

  reason-line : {b : Moment} {s t : ℕ} {L h : List ℕ} {is : List Item} {x : List ℕ} → Reason M.head.size M.records b.records s t L → Shelved M L h → Meant M (after (posed (explain s t)) b) is x
      → Meant M b (posed (explain s t) ∷ is) ((explain_line s t 132 L ++ h) ++ x)
  unfolding explain_line
  reason-line r f m = means.because r f m

  none-line : {b : Moment} {s t : ℕ} {is : List Item} {x : List ℕ} (ns : List ℕ) → (Follows (UpTo M.records b.records) s t → ⊥) → Meant M (after (posed (explain s t)) b) is x
      → Meant M b (posed (explain s t) ∷ is) (explain_line s t 133 ns ++ x)
  unfolding explain_line
  none-line ns n h = means.apart n h

  apart-meant : {b : Moment} {s t : ℕ} {is : List Item} (bs : List ℕ) → (Follows (UpTo M.records b.records) s t → ⊥) → Meant M (after (posed (explain s t)) b) is (lines_of (edition M) is bs)
      → Meant M b (posed (explain s t) ∷ is) (lines_of (edition M) (posed (explain s t) ∷ is) (field 133 [] ++ bs))
  apart-meant {s = s} {t = t} {is = is} bs n h =
      meant-as (by-line (edition M) (explain s t) 133 [] is bs (explain_line s t 133 (numbers_in [])) refl (explain-line s t 133 [] bs)) (none-line (numbers_in []) n h)

  breach-line : {b : Moment} {k : ℕ} {L h : List ℕ} {is : List Item} {x : List ℕ} → Earliest M.records b.records M.pairs b.differs k → PairReason M b k L → Shelved M L h
      → Meant M (after (posed broken) b) is x → Meant M b (posed broken ∷ is) ((broken_line 134 k L ++ h) ++ x)
  unfolding broken_line
  breach-line {k = k} {L = L} e r f m = means.breached {k = k} {L = L} e r f m

  intact-line : {b : Moment} {is : List Item} {x : List ℕ} (n : ℕ) (ns : List ℕ) → Unbroken M.records b.records M.pairs b.differs → Meant M (after (posed broken) b) is x
      → Meant M b (posed broken ∷ is) (broken_line 135 n ns ++ x)
  unfolding broken_line
  intact-line n ns u h = means.intact u h

  intact-meant : {b : Moment} {is : List Item} (bs : List ℕ) → Unbroken M.records b.records M.pairs b.differs → Meant M (after (posed broken) b) is (lines_of (edition M) is bs)
      → Meant M b (posed broken ∷ is) (lines_of (edition M) (posed broken ∷ is) (field 135 [] ++ bs))
  intact-meant {is = is} bs u h = meant-as (by-line (edition M) broken 135 [] is bs _ refl (intact-words bs)) (intact-line _ _ u h)

  sheets-lines : {q : Question} {L g : List ℕ} (k : ℕ) (c : List ℕ) (is : List Item) (bs : List ℕ) → (eqb k 132 || eqb k 134) ≡ true → Filed M L g → Lines M q L (field k c) g is bs
  sheets-lines {q} k c is bs h (unfiled e) = record {
    more = [];
    right = means.unfiled e;
    are = ap (lines_of (edition M) (posed q ∷ is)) (append_assoc (field k c) [] bs) ∙ lone-lines (edition M) q k c is bs (ap (λ (v : Bool). v && (eqb k 132 || eqb k 134)) e)
        ∙ ap (λ (u : List ℕ). u ++ lines_of (edition M) is bs) (sym (append-nil (question_line q (field k c ++ bs))));
  }
  sheets-lines {q} k c is bs h (filed {hs} e s) = record {
    more = line 72 (length hs ∷ hs);
    right = means.filed e s;
    are = ap (lines_of (edition M) (posed q ∷ is)) (append_assoc (field k c) (field 138 (numbers hs)) bs)
        ∙ both-lines (edition M) q k c (numbers hs) is bs (ap (λ (v : Bool). v && (eqb k 132 || eqb k 134)) e ∙ h)
        ∙ ap (λ (ns : List ℕ). (question_line q (field k c ++ (field 138 (numbers hs) ++ bs)) ++ line 72 (length ns ∷ ns)) ++ lines_of (edition M) is bs) (numbers-back hs);
  }

  because-meant : {b : Moment} {s t : ℕ} {L g : List ℕ} {is : List Item} (bs : List ℕ) → Reason M.head.size M.records b.records s t L → Filed M L g
      → Meant M (after (posed (explain s t)) b) is (lines_of (edition M) is bs) → Meant M b (posed (explain s t) ∷ is) (lines_of (edition M) (posed (explain s t) ∷ is) ((field 132 (numbers L) ++ g) ++ bs))
  because-meant {s = s} {t = t} {L = L} {g = g} {is = is} bs r f m =
      let l : Lines M (explain s t) L (field 132 (numbers L)) g is bs = sheets-lines 132 (numbers L) is bs refl f in
      let p : question_line (explain s t) (field 132 (numbers L) ++ (g ++ bs)) ≡ explain_line s t 132 L = explain-line s t 132 (numbers L) (g ++ bs) ∙ ap (explain_line s t 132) (numbers-back L) in
      meant-as (l.are ∙ ap (λ (u : List ℕ). (u ++ l.more) ++ lines_of (edition M) is bs) p) (reason-line r l.right m)

  breach-meant : {b : Moment} {k : ℕ} {L g : List ℕ} {is : List Item} (bs : List ℕ) → Earliest M.records b.records M.pairs b.differs k → PairReason M b k L → Filed M L g
      → Meant M (after (posed broken) b) is (lines_of (edition M) is bs) → Meant M b (posed broken ∷ is) (lines_of (edition M) (posed broken ∷ is) ((field 134 (numbers (k ∷ L)) ++ g) ++ bs))
  breach-meant {k = k} {L = L} {g = g} {is = is} bs e r f m =
      let l : Lines M broken L (field 134 (numbers (k ∷ L))) g is bs = sheets-lines 134 (numbers (k ∷ L)) is bs refl f in
      meant-as (l.are ∙ ap (λ (u : List ℕ). (u ++ l.more) ++ lines_of (edition M) is bs) (breach-words k L (g ++ bs))) (breach-line {k = k} {L = L} e r l.right m)

  leaders-line : {b : Moment} {s t : ℕ} {L : List ℕ} {is : List Item} {x : List ℕ} → (Follows (UpTo M.records b.records) s t → ⊥) → Led M.head.size M.head.units (UpTo M.records b.records) L
      → Meant M (after (posed (why s t)) b) is x → Meant M b (posed (why s t) ∷ is) (why_line s t 136 L ++ x)
  unfolding why_line
  leaders-line n d h = means.parted n d h

  follows-line : {b : Moment} {s t : ℕ} {is : List Item} {x : List ℕ} (ns : List ℕ) → Follows (UpTo M.records b.records) s t → Meant M (after (posed (why s t)) b) is x
      → Meant M b (posed (why s t) ∷ is) (why_line s t 137 ns ++ x)
  unfolding why_line
  follows-line ns f h = means.joined f h

  parted-meant : {b : Moment} {s t : ℕ} {L : List ℕ} {is : List Item} (bs : List ℕ) → (Follows (UpTo M.records b.records) s t → ⊥) → Led M.head.size M.head.units (UpTo M.records b.records) L
      → Meant M (after (posed (why s t)) b) is (lines_of (edition M) is bs) → Meant M b (posed (why s t) ∷ is) (lines_of (edition M) (posed (why s t) ∷ is) (field 136 (numbers L) ++ bs))
  parted-meant {s = s} {t = t} {L = L} {is = is} bs n d h =
      meant-as (by-line (edition M) (why s t) 136 (numbers L) is bs (why_line s t 136 L) refl (why-line s t 136 (numbers L) bs ∙ ap (why_line s t 136) (numbers-back L))) (leaders-line n d h)

  joined-meant : {b : Moment} {s t : ℕ} {is : List Item} (bs : List ℕ) → Follows (UpTo M.records b.records) s t → Meant M (after (posed (why s t)) b) is (lines_of (edition M) is bs)
      → Meant M b (posed (why s t) ∷ is) (lines_of (edition M) (posed (why s t) ∷ is) (field 137 [] ++ bs))
  joined-meant {s = s} {t = t} {is = is} bs f h =
      meant-as (by-line (edition M) (why s t) 137 [] is bs (why_line s t 137 (numbers_in [])) refl (why-line s t 137 [] bs)) (follows-line (numbers_in []) f h)

  reasoned-meant : {b : Moment} {q : Question} {L f g : List ℕ} {is : List Item} (bs : List ℕ) → Reasoned M b q L f → Filed M L g → Meant M (after (posed q) b) is (lines_of (edition M) is bs)
      → Meant M b (posed q ∷ is) (lines_of (edition M) (posed q ∷ is) ((f ++ g) ++ bs))
  reasoned-meant bs (because r) g m = because-meant bs r g m
  reasoned-meant bs (breached e r) g m = breach-meant bs e r g m

  -- The lines of a sound report mean what document 01 says.
  pub sound-meant : {b : Moment} {is : List Item} {bs : List ℕ} → Sound M b is bs → Meant M b is (lines_of (edition M) is bs)
  sound-meant (totals t) = totals-meant t
  sound-meant (passed s) = passed-meant _ (sound-meant s)
  sound-meant (answered (led h k) s) = led-meant _ h k (sound-meant s)
  sound-meant (answered (reasoned r g) s) = reasoned-meant _ r g (sound-meant s)
  sound-meant (answered (apart n) s) = apart-meant _ n (sound-meant s)
  sound-meant (answered (intact u) s) = intact-meant _ u (sound-meant s)
  sound-meant (answered (parted n d) s) = parted-meant _ n d (sound-meant s)
  sound-meant (answered (joined f) s) = joined-meant _ f (sound-meant s)
