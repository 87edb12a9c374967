-- The job that an accepted script becomes is accepted by the reading, as the script's own fields: so a run on it is refused for room at most. Assumes nothing.
use Prim.Native.Nat.{ℕ, zero, suc, ◌+◌, ◌/◌, ◌%◌, ◌≤◌, ◌<◌}
use native.Mathlib.Omega.{arith}
use mathlib.Core.Path.{◌≡◌, refl, sym, ◌∙◌, ap}
use mathlib.Core.Bool.{Bool, true, false, cond, ◌&&◌}
use mathlib.Core.List.{List, [], ◌∷◌, ◌++◌, map, append_assoc}
use lib.Dec.{leb, ltb}
use lib.ListN.{length, length-append}
use Rattle.meaning.specs.Following.{eq, app}
use Rattle.script_terms.specs.Terms.{Command}
use Rattle.script_terms.specs.Flat.{Item, noted, differing, checking, parts_of, symbols_of, tags_of, items_of}
use Rattle.script_terms.proofs.Tests.{leb_yes, ltb_yes}
use Rattle.script_meaning.specs.Reading.{got, reading}
use Rattle.script_meaning.specs.Bytes.{field_of, fields_of, job_of}
use Rattle.script_meaning.proofs.Laws.{reading-limits}
use Rattle.job_field.specs.Items as job
use Rattle.job_field.specs.Reading.{Field, header, item, end, behind_at, or_else, counted, size_right, tagged, filed, sheeted_in, checked, with as before, onward, read_from, reading as job-reading}
use Rattle.job_field.specs.Standing.{Below}
use Rattle.job_field.proofs.Items.{after-records, after-differs, after-questions}
use Rattle.script_written.specs.Written.{item_of, head_for, items_for}
use Rattle.script_written.proofs.Fields.{or-else, end_read, item-read, header_read}
use Rattle.script_written.proofs.Tags.{Each, more, reading-each, records-same, items-pairs, items-asked}

-- Tags below N pass.
tags-pass : (N n : ℕ) (ts : List ℕ) (f : Field) → Below N ts → tagged N n ts f ≡ f
tags-pass N n [] f b = refl
tags-pass N n (t ∷ ts) f (h, b) = or-else (ltb t N) n (tagged N (suc n) ts f) (ltb_yes h) ∙ tags-pass N (suc n) ts f b

both : (a b : Bool) → a ≡ true → b ≡ true → (a && b) ≡ true
both a b e f = rw (e, f)

-- What is left fits the limits.
pub record Fits (b : job.Moment) (is : List job.Item) : Type 0 where
  pub records : b.records + length (job.records_of is) ≤ 4000
  pub differs : b.differs + length (job.pairs_of is) ≤ 500
  pub questions : b.questions + job.questions_of is ≤ 1000

fits_on : (b : job.Moment) (i : job.Item) (is : List job.Item) → Fits b (i ∷ is) → Fits (job.after i b) is
fits_on b i is F = record { records = omega (arith, F.records, after-records b i is); differs = omega (arith, F.differs, after-differs b i is); questions = omega (arith, F.questions, after-questions b i is) }

count-pass : (b : job.Moment) (i : job.Item) (is : List job.Item) → Fits b (i ∷ is) → counted b (item i) ≡ true
count-pass b (job.noted n) is F =
    both (leb (b.records + length (job.stands_for n)) 4000) (leb (b.differs + length (job.pairs_noted n)) 500)
    (leb_yes (b.records + length (job.stands_for n)) 4000 (omega (arith, F.records, length-append (job.stands_for n) (job.records_of is))))
    (leb_yes (b.differs + length (job.pairs_noted n)) 500 (omega (arith, F.differs, length-append (job.pairs_noted n) (job.pairs_of is))))
count-pass b (job.posed q) is F = ltb_yes {m = b.questions} {n = 1000} (omega (arith, F.questions))

item-pass : (H : job.Head) (b : job.Moment) (i : job.Item) (is : List job.Item) → Fits b (i ∷ is) → Below H.size (job.tags_of i) → filed (item i) ≡ true → checked H b (item i) ≡ item i
unfolding checked
item-pass H b i is F t v =
    or-else (counted b (item i)) 7 (tagged H.size 11 (job.tags_of i) (or_else (filed (item i)) 17 (item i))) (count-pass b i is F)
    ∙ tags-pass H.size 11 (job.tags_of i) (or_else (filed (item i)) 17 (item i)) t
    ∙ or-else (filed (item i)) 17 (item i) v

-- No record of a script has a sheet.
unfiled : (x : Item) → filed (item (item_of x)) ≡ true
unfiled (noted r) = refl
unfiled (differing a b) = refl
unfiled checking = refl

end-pass : (H : job.Head) (b : job.Moment) → checked H b end ≡ end
unfolding checked
end-pass H b = refl

-- Reading on from a place where the fields of some items stand.
written_from : (n : ℕ) (is : List Item) (pre : List ℕ) (at : ℕ) (H : job.Head) (b : job.Moment) → at ≡ length pre → 0 < at → ((l : List ℕ) → sheeted_in (pre ++ l) ≡ false) → length is < n → Each H.size is → Fits b (map item_of is)
    → read_from n (pre ++ fields_of is) H b at ≡ job.accepted H (map item_of is)
unfolding read_from
written_from zero is pre at H b e s u l E F = absurd (omega arith)
written_from (suc n) [] pre at H b e s u l E F =
    let bytes : List ℕ = pre ++ (127 ∷ 0 ∷ 0 ∷ []) in
    let R = end_read pre at e s u in
    let m : length bytes ≡ length pre + 3 = length-append pre (127 ∷ 0 ∷ 0 ∷ []) in
    ap (λ f. onward (read_from n bytes) bytes H b at (checked H b f)) R.says ∙ ap (onward (read_from n bytes) bytes H b at) (end-pass H b)
    ∙ ap (λ t. cond t (job.accepted H []) (job.refused 8 (behind_at bytes at))) (leb_yes (length bytes) (behind_at bytes at) (omega (arith, R.behind)))
written_from (suc n) (i ∷ is) pre at H b e s u l (more t E) F =
    let bytes : List ℕ = pre ++ (field_of i ++ fields_of is) in
    let R = item-read pre at e s u i (fields_of is) in
    let m : length (pre ++ field_of i) ≡ length pre + length (field_of i) = length-append pre (field_of i) in
    let again : read_from n bytes H (job.after (item_of i) b) (behind_at bytes at) ≡ job.accepted H (map item_of is) =
    ap (read_from n bytes H (job.after (item_of i) b)) R.behind ∙ ap (λ l. read_from n l H (job.after (item_of i) b) (at + length (field_of i))) (sym (append_assoc pre (field_of i) (fields_of is)))
    ∙ written_from n is (pre ++ field_of i) (at + length (field_of i)) H (job.after (item_of i) b) (omega arith) (omega arith) (λ (x : List ℕ). ap sheeted_in (append_assoc pre (field_of i) x) ∙ u (field_of i ++ x)) (omega arith) E (fits_on b (item_of i) (map item_of is) F) in
    ap (λ f. onward (read_from n bytes) bytes H b at (checked H b f)) R.says ∙ ap (onward (read_from n bytes) bytes H b at) (item-pass H b (item_of i) (map item_of is) F t (unfiled i))
    ∙ ap (before (item_of i)) again

fields-long : (is : List Item) → length is < length (fields_of is)
fields-long [] = omega arith
fields-long (noted (eq a b) ∷ is) = let h = fields-long is in omega (arith, length-append (field_of (noted (eq a b))) (fields_of is))
fields-long (noted (app a b c) ∷ is) = let h = fields-long is in omega (arith, length-append (field_of (noted (app a b c))) (fields_of is))
fields-long (differing a b ∷ is) = let h = fields-long is in omega (arith, length-append (field_of (differing a b)) (fields_of is))
fields-long (checking ∷ is) = let h = fields-long is in omega (arith, length-append (field_of checking) (fields_of is))

header-pass : (H : job.Head) → 1 ≤ H.size → H.size ≤ 1000 → H.units ≤ H.size → checked job.unsized job.start (header H) ≡ header H
unfolding checked
header-pass H a b c =
    or-else (size_right H) 6 (header H)
    (both (ltb 0 H.size) (leb H.size 1000 && leb H.units H.size) (ltb_yes {m = 0} {n = H.size} a) (both (leb H.size 1000) (leb H.units H.size) (leb_yes H.size 1000 b) (leb_yes H.units H.size c)))

-- "the job is always accepted by the reading", as the script's own fields.
pub written-reads : (s : List ℕ) {cs : List Command} → reading s ≡ got cs → job-reading (job_of cs) ≡ job.accepted (head_for cs) (items_for cs)
unfolding job_of job-reading read_from
written-reads s {cs} e =
    let L = reading-limits s e in
    let N = tags_of cs in
    let is = items_of cs in
    let H : job.Head = head_for cs in
    let bytes : List ℕ = 16 ∷ 0 ∷ 2 ∷ N / 256 ∷ N % 256 ∷ fields_of is in
    let R = header_read N (fields_of is) in
    let F : Fits job.start (map item_of is) = record {
      records = omega (arith, L.records, ap length (records-same is));
      differs = omega (arith, L.differs, items-pairs (symbols_of cs) (parts_of cs) [] cs);
      questions = omega (arith, L.checks, items-asked (symbols_of cs) (parts_of cs) [] cs);
    } in
    ap (λ f. onward (read_from (length bytes) bytes) bytes job.unsized job.start 0 (checked job.unsized job.start f)) R.says
    ∙ ap (onward (read_from (length bytes) bytes) bytes job.unsized job.start 0) (header-pass H L.some L.tags (omega arith))
    ∙ ap (read_from (length bytes) bytes H job.start) R.behind
    ∙ written_from (length bytes) is (16 ∷ 0 ∷ 2 ∷ N / 256 ∷ N % 256 ∷ []) 5 H job.start refl (omega arith) (λ (x : List ℕ). refl) (omega (arith, fields-long is)) (reading-each s e) F
