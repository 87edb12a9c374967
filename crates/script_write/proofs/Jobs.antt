-- The whole job: what the table holds becomes the definition's bytes, and they are few enough. Assumes nothing.
use Prim.Native.Nat.{ℕ, zero, suc, ◌+◌, ◌*◌, ◌/◌, ◌%◌, ◌≤◌, ◌<◌, max}
use native.Mathlib.Omega.{arith}
use mathlib.Core.Path.{◌≡◌, refl, sym, ◌∙◌, ap, subst}
use mathlib.Core.List.{List, [], ◌∷◌, ◌++◌, map, append_assoc, append-nil}
use lib.ListN.{length, get_or, take, drop, length-append, length-map}
use Rattle.meaning.specs.Following.{Rec, eq, app}
use Rattle.report.specs.Report.{two as number, front, laid}
use Rattle.report.proofs.Laid.{laid_then, laid-front}
use Rattle.script_terms.specs.Terms.{Command, declare, equal, differ, check, differs_of, checks_of}
use Rattle.script_terms.specs.Flat.{Part, after, record_of, Item, noted, differing, checking, records_of, new_items, own_of, items_from, parts_of, symbols_of, tags_of, items_of}
use Rattle.script_meaning.specs.Reading.{got, reading}
use Rattle.script_meaning.specs.Bytes.{field_of, fields_of, job_of}
use Rattle.script_meaning.proofs.Laws.{reading-limits}
use Rattle.script_meaning.proofs.Shift.{shift_item, reading-shift}
use Rattle.script_shelf.specs.Shelf.{kind_of, first_of, second_of, third_of}
use Rattle.script_shelf.specs.declared.Counts.{Counts}
use Rattle.script_commands.proofs.Asking.{room_of}
use Rattle.script_read.specs.Script.{Whole}
use Rattle.script_write.specs.Writing.{pair_of, triple_of, field_bytes, field_in, fields_in, FieldsAsk, FieldsPut, JobAsk, Job}

-- The bytes of fields, without the end.
abbrev flat : List Item → List ℕ
flat [] = []
flat (x ∷ l) = field_of x ++ flat l

flat-end : (l : List Item) → fields_of l ≡ flat l ++ 127 ∷ 0 ∷ 0 ∷ []
flat-end [] = refl
flat-end (x ∷ l) = ap (λ y. field_of x ++ y) (flat-end l) ∙ sym (append_assoc (field_of x) (flat l) (127 ∷ 0 ∷ 0 ∷ []))

flat-more : (l : List Item) (x : Item) → flat (l ++ x ∷ []) ≡ flat l ++ field_of x
flat-more [] x = append-nil (field_of x)
flat-more (y ∷ l) x = ap (λ z. field_of y ++ z) (flat-more l x) ∙ sym (append_assoc (field_of y) (flat l) (field_of x))

take_more : (l : List Item) (n : ℕ) → n < length l → take (suc n) l ≡ take n l ++ get_or l n checking ∷ []
take_more [] n h = absurd (omega arith)
take_more (x ∷ l) zero h = refl
take_more (x ∷ l) (suc n) h = ap (λ y. x ∷ y) (take_more l n (omega arith))

take_all : (l : List Item) → take (length l) l ≡ l
take_all [] = refl
take_all (x ∷ l) = ap (λ y. x ∷ y) (take_all l)

at_map : (f : Item → ℕ) (l : List Item) (n : ℕ) → n < length l → get_or (map f l) n 0 ≡ f (get_or l n checking)
at_map f [] n h = absurd (omega arith)
at_map f (x ∷ l) zero h = refl
at_map f (x ∷ l) (suc n) h = at_map f l n (omega arith)

map_more : (f : Item → Item) (l : List Item) (x : Item) → map f (l ++ x ∷ []) ≡ map f l ++ f x ∷ []
map_more f [] x = refl
map_more f (y ∷ l) x = ap (λ z. f y ∷ z) (map_more f l x)

-- A field of the table is a field of the definition, shifted.
field_is : (S : ℕ) (x : Item) → field_bytes S (kind_of x) (first_of x) (second_of x) (third_of x) ≡ field_of (shift_item S x)
unfolding field_bytes pair_of triple_of
field_is S (noted (eq a b)) = refl
field_is S (noted (app a b c)) = refl
field_is S (differing a b) = refl
field_is S checking = refl

-- How many bytes there can be.
abbrev differing-in : List Item → ℕ
differing-in [] = 0
differing-in (noted r ∷ l) = differing-in l
differing-in (differing a b ∷ l) = suc (differing-in l)
differing-in (checking ∷ l) = differing-in l

abbrev checking-in : List Item → ℕ
checking-in [] = 0
checking-in (noted r ∷ l) = checking-in l
checking-in (differing a b ∷ l) = checking-in l
checking-in (checking ∷ l) = suc (checking-in l)

size-most : (l : List Item) → length (flat l) ≤ 9 * length (records_of l) + 7 * differing-in l + 3 * checking-in l
size-most [] = omega arith
size-most (noted (eq a b) ∷ l) = let h = size-most l in omega (arith, length-append (field_of (noted (eq a b))) (flat l))
size-most (noted (app a b c) ∷ l) = let h = size-most l in omega (arith, length-append (field_of (noted (app a b c))) (flat l))
size-most (differing a b ∷ l) = let h = size-most l in omega (arith, length-append (field_of (differing a b)) (flat l))
size-most (checking ∷ l) = let h = size-most l in omega (arith, length-append (field_of checking) (flat l))

differing-append : (k l : List Item) → differing-in (k ++ l) ≡ differing-in k + differing-in l
differing-append [] l = omega arith
differing-append (noted r ∷ k) l = differing-append k l
differing-append (differing a b ∷ k) l = let e = differing-append k l in omega arith
differing-append (checking ∷ k) l = differing-append k l

checking-append : (k l : List Item) → checking-in (k ++ l) ≡ checking-in k + checking-in l
checking-append [] l = omega arith
checking-append (noted r ∷ k) l = checking-append k l
checking-append (differing a b ∷ k) l = checking-append k l
checking-append (checking ∷ k) l = let e = checking-append k l in omega arith

-- The 02s of new parts are neither.
differing-none : (f : Part → Rec) (l : List Part) → differing-in (map (λ p. noted (f p)) l) ≡ 0
differing-none f [] = refl
differing-none f (p ∷ l) = differing-none f l

checking-none : (f : Part → Rec) (l : List Part) → checking-in (map (λ p. noted (f p)) l) ≡ 0
checking-none f [] = refl
checking-none f (p ∷ l) = checking-none f l

module _ (S : ℕ) (all : List Part) where
  own-differs : (c : Command) (cs : List Command) → differing-in (own_of S all c) + differs_of cs ≡ differs_of (c ∷ cs)
  own-differs (declare n) cs = omega arith
  own-differs (equal s t) cs = omega arith
  own-differs (differ s t) cs = omega arith
  own-differs check cs = omega arith

  own-checks : (c : Command) (cs : List Command) → checking-in (own_of S all c) + checks_of cs ≡ checks_of (c ∷ cs)
  own-checks (declare n) cs = omega arith
  own-checks (equal s t) cs = omega arith
  own-checks (differ s t) cs = omega arith
  own-checks check cs = omega arith

  items-differ : (l : List Part) (cs : List Command) → differing-in (items_from S all l cs) ≡ differs_of cs
  items-differ l [] = refl
  items-differ l (c ∷ cs) =
      let n = new_items S all l c in
      let r = items_from S all (after l c) cs in
      omega (arith, differing-append n (own_of S all c ++ r), differing-append (own_of S all c) r, differing-none (record_of S all) (drop (length l) (after l c)), items-differ (after l c) cs, own-differs c cs)

  items-check : (l : List Part) (cs : List Command) → checking-in (items_from S all l cs) ≡ checks_of cs
  items-check l [] = refl
  items-check l (c ∷ cs) =
      let n = new_items S all l c in
      let r = items_from S all (after l c) cs in
      omega (arith, checking-append n (own_of S all c ++ r), checking-append (own_of S all c) r, checking-none (record_of S all) (drop (length l) (after l c)), items-check (after l c) cs, own-checks c cs)

job-most : (s : List ℕ) {cs : List Command} → reading s ≡ got cs → length (flat (items_of cs)) ≤ 42500
job-most s {cs} e =
    let L = reading-limits s e in
    let a = size-most (items_of cs) in
    let b = items-differ (symbols_of cs) (parts_of cs) [] cs in
    let c = items-check (symbols_of cs) (parts_of cs) [] cs in
    omega (arith, L.records, L.differs, L.checks)

-- What the table holds.
module _ {s w : List ℕ} {c : Counts} {cs : List Command} (W : Whole s w cs c) (e : reading s ≡ got cs) where
  field_at : (S i : ℕ) → i < length (items_from 1001 (parts_of cs) [] cs) → field_in w S i ≡ field_of (shift_item S (get_or (items_from 1001 (parts_of cs) [] cs) i checking))
  field_at S i h =
      let fs = items_from 1001 (parts_of cs) [] cs in
      let L = W.start.holding.laid in
      let k : get_or w (8025 + i) 0 ≡ kind_of (get_or fs i checking) = L.cell 9 (omega arith) i (rw (length-map fs kind_of) h) ∙ at_map kind_of fs i h in
      let a : get_or w (13526 + i) 0 ≡ first_of (get_or fs i checking) = L.cell 10 (omega arith) i (rw (length-map fs first_of) h) ∙ at_map first_of fs i h in
      let b : get_or w (19027 + i) 0 ≡ second_of (get_or fs i checking) = L.cell 11 (omega arith) i (rw (length-map fs second_of) h) ∙ at_map second_of fs i h in
      let d : get_or w (24528 + i) 0 ≡ third_of (get_or fs i checking) = L.cell 12 (omega arith) i (rw (length-map fs third_of) h) ∙ at_map third_of fs i h in
      rw (k, a, b, d) (field_is S (get_or fs i checking))

  fields_at : (S n : ℕ) → n ≤ length (items_from 1001 (parts_of cs) [] cs) → fields_in w S n ≡ flat (map (shift_item S) (take n (items_from 1001 (parts_of cs) [] cs)))
  unfolding fields_in
  fields_at S zero h = refl
  fields_at S (suc n) h =
      let fs = items_from 1001 (parts_of cs) [] cs in
      let a = fields_at S n (omega arith) in
      let b = field_at S n h in
      rw (a, b) (sym (ap (λ l. flat (map (shift_item S) l)) (take_more fs n h) ∙ ap flat (map_more (shift_item S) (take n fs) (get_or fs n checking)) ∙ flat-more (map (shift_item S) (take n fs)) (shift_item S (get_or fs n checking))))

  symbols-are : c.symbols ≡ symbols_of cs
  symbols-are = W.start.holding.counted.symbols ∙ sym (length-map W.seen.symbols (λ x. x.takes)) ∙ ap length W.arities

  fields-are : fields_in w c.symbols c.fields ≡ flat (items_of cs)
  fields-are =
      let fs = items_from 1001 (parts_of cs) [] cs in
      let n : c.fields ≡ length fs = W.start.holding.counted.fields in
      rw (n, symbols-are) (fields_at (symbols_of cs) (length fs) (omega arith) ∙ ap (λ l. flat (map (shift_item (symbols_of cs)) l)) (take_all fs) ∙ ap flat (reading-shift s e))

  parts_are : c.parts ≡ length (parts_of cs)
  parts_are = W.start.holding.counted.parts ∙ ap length W.parts

  pub tags-few : c.symbols + c.parts ≤ 1000
  tags-few = let l = (reading-limits s e).tags in omega (arith, symbols-are, parts_are)

  tags-are : max 1 (c.symbols + c.parts) ≡ tags_of cs
  tags-are = rw (symbols-are, parts_are)

  -- The room: header, fields, end.
  pub job-laid : (room x y z v : List ℕ) (tags at to : ℕ) → 46510 ≤ length room → tags ≡ max 1 (c.symbols + c.parts) → x ≡ laid 0 (front 16 2) room → y ≡ laid 3 (number tags) x → FieldsPut w c y z 5 at → v ≡ laid at (front 127 0) z → to ≡ at + 3 → Job room v to cs
  unfolding front number job_of
  job-laid room x y z v tags at to h t a b F d g =
      let m = job-most s e in
      let f = fields-are in
      let k : z ≡ laid 5 (flat (items_of cs)) y = subst (λ l. z ≡ laid 5 l y) f F.is in
      let i : at ≡ 5 + length (flat (items_of cs)) = subst (λ l. at ≡ 5 + length l) f F.behind in
      let p : y ≡ laid 0 (front 16 2 ++ number tags) room = b ∙ laid_then 0 3 (front 16 2) (number tags) room x (omega arith) refl a in
      let q : z ≡ laid 0 ((front 16 2 ++ number tags) ++ flat (items_of cs)) room = k ∙ laid_then 0 5 (front 16 2 ++ number tags) (flat (items_of cs)) room y (omega arith) refl p in
      let all = (front 16 2 ++ number tags) ++ flat (items_of cs) in
      let n : length all ≡ 5 + length (flat (items_of cs)) = length-append (front 16 2 ++ number tags) (flat (items_of cs)) in
      let r : v ≡ laid 0 (all ++ front 127 0) room = d ∙ laid_then 0 at all (front 127 0) room z (omega arith) (omega arith) q in
      let u : all ++ front 127 0 ≡ job_of cs = rw (t ∙ tags-are) (ap (λ l. 16 ∷ 0 ∷ 2 ∷ tags_of cs / 256 ∷ tags_of cs % 256 ∷ l) (sym (flat-end (items_of cs)))) in
      let o : length (job_of cs) ≡ length all + 3 = ap length (sym u) ∙ length-append all (front 127 0) in
      record { is = r ∙ ap (λ l. laid 0 l room) u ∙ laid-front (job_of cs) room; size = omega arith }

pub fields-ask : {w : List ℕ} {c : Counts} {room y : List ℕ} → JobAsk w c room → length y ≡ length room → FieldsAsk w c y 5
fields-ask {w} {c} {room} {y} A l =
    let m = job-most A.script A.read in
    let f : length (fields_in w c.symbols c.fields) ≡ length (flat (items_of A.commands)) = ap length (fields-are A.whole A.read) in
    let t = tags-few A.whole A.read in
    let R = room_of A.whole.start in
    record { long = R.long; few = omega (arith, R.fields); symbols = omega arith; space = omega (arith, A.long) }

-- Behind the fields there is room for the end.
pub end-space : {w : List ℕ} {c : Counts} {room y z : List ℕ} {at : ℕ} → JobAsk w c room → FieldsPut w c y z 5 at → length z ≡ length room → (at + 3 ≤ length z) × (at ≤ 42505)
end-space {w} {c} A F l =
    let m = job-most A.script A.read in
    let f : length (fields_in w c.symbols c.fields) ≡ length (flat (items_of A.commands)) = ap length (fields-are A.whole A.read) in
    (omega (arith, A.long, F.behind), omega (arith, F.behind))
