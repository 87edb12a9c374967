-- What lies before the list is not written while a reason is made: so the past stays, with its records, joins and links.
-- Each region is one function, and equal functions say the same. Assumes nothing.
use Prim.Native.Nat.{ℕ, ◌≤◌, ◌<◌}
use native.Mathlib.Omega.{arith}
use mathlib.Core.Path.{◌≡◌, ap, fun_ext}
use mathlib.Core.Logic.{inl, inr}
use mathlib.Core.List.{List}
use lib.Dec.{eqb, leb}
use Rattle.meaning.specs.Following.{Rec}
use Rattle.meaning.specs.Joins.{Join, Justified, count}
use Rattle.meaning.specs.Forest.{root, Links, History}
use Rattle.meaning.proofs.Exact.{Settled}
use Rattle.meaning.specs.Limits.{most_tags}
use Rattle.table.specs.Map.{left_of, right_of, result_of, parent_of, age_of, first_of, second_of, when_of, records_in, join_at, Loaded, Within}
use Rattle.table.proofs.Frame.{seen-within, within_wider}
use Rattle.table.proofs.Kept.{lefts, rights, results, loaded-same, records-same}
use Rattle.table.specs.Past.{Past}
use Rattle.table.specs.Places.{AGE, FIRST, LIST, MARKS, PARENT, SECOND, WHEN, from_to, list_part}
use Rattle.moment.specs.Meeting.{Forested}
use Rattle.moment.specs.Holding.{Holds, marked}

-- The past, said of functions.
record Bare (N len n : ℕ) (rs : List Rec) (e : ℕ → Join) (p g h : ℕ → ℕ) : Type 0 where
  history : History e n p g most_tags
  justified : Justified rs e n
  made : (a : ℕ) → a < n → (1 ≤ h a) × (h a ≤ len)
  order : (a b : ℕ) → a ≤ b → b < n → h a ≤ h b
  moments : (k : ℕ) → k ≤ len → Settled rs (λ m. m ≤ k) e (count (λ a. leb (h a) k) n) (root p g (count (λ a. leb (h a) k) n))

module _ {e : ℕ} {w w' : List ℕ} (f : Within (from_to LIST.at e) w w') where
  pub kept-parents : parent_of w' ≡ parent_of w
  kept-parents = seen-within PARENT f (inl (omega arith))

  pub kept_ages : age_of w' ≡ age_of w
  kept_ages = seen-within AGE f (inl (omega arith))

  pub kept-whens : when_of w' ≡ when_of w
  kept-whens = seen-within WHEN f (inl (omega arith))

  columns : Within (from_to PARENT.at e) w w'
  columns = within_wider (from_to PARENT.at e) (omega arith) (omega arith) f

  pub kept-left : (k : ℕ) → left_of w' k ≡ left_of w k
  kept-left k = ap (λ (h : ℕ → ℕ). h k) (lefts columns)

  pub kept-right : (k : ℕ) → right_of w' k ≡ right_of w k
  kept-right k = ap (λ (h : ℕ → ℕ). h k) (rights columns)

  result-same : (k : ℕ) → result_of w' k ≡ result_of w k
  result-same k = ap (λ (h : ℕ → ℕ). h k) (results columns)

  pub kept-first : (k : ℕ) → first_of w' k ≡ first_of w k
  kept-first k = ap (λ (h : ℕ → ℕ). h k) (seen-within FIRST f (inl (omega arith)))

  pub kept_second : (k : ℕ) → second_of w' k ≡ second_of w k
  kept_second k = ap (λ (h : ℕ → ℕ). h k) (seen-within SECOND f (inl (omega arith)))

  pub kept-records : (len : ℕ) → records_in len w' ≡ records_in len w
  kept-records = records-same columns

  pub kept-joins : join_at w' ≡ join_at w
  kept-joins = fun_ext (λ a. rw (kept-first a, kept_second a, kept-left (first_of w a), kept-right (first_of w a), result-same (first_of w a), result-same (second_of w a)))

  pub kept-loaded : {N len : ℕ} → Loaded N len w → Loaded N len w'
  kept-loaded = loaded-same columns

  bare : {N len n : ℕ} → Past N len w n → Bare N len n (records_in len w) (join_at w) (parent_of w) (age_of w) (when_of w)
  bare h = record { history = h.history; justified = h.justified; made = h.made; order = h.order; moments = h.moments }

  bare' : {N len n : ℕ} → Past N len w n → Bare N len n (records_in len w') (join_at w') (parent_of w') (age_of w') (when_of w')
  bare' {N} {len} {n} h = rw (kept-records len, kept-joins, kept-parents, kept_ages, kept-whens) (bare h)

  pub kept-past : {N len n : ℕ} → Past N len w n → Past N len w' n
  kept-past h =
      let b = bare' h in
      record { loaded = kept-loaded h.loaded; low = h.low; history = b.history; justified = b.justified; made = b.made; order = b.order; moments = b.moments }

  pub kept-holds : {a : ℕ} → Holds w a → Holds w' a
  kept-holds h = record { tags = h.tags; len = h.len; joins = h.joins; past = kept-past h.past; reach = h.reach }

-- Writing in the list and in the notes leaves the marks.
pub kept-marks : {w w' : List ℕ} → Within list_part w w' → marked w' ≡ marked w
kept-marks f = fun_ext (λ a. ap (λ (m : ℕ → ℕ). eqb (m a) 1) (seen-within MARKS f (inr (omega arith))))

-- The links do not ask how many joins there are.
pub links-all : {p g : ℕ → ℕ} {n : ℕ} → Links p g most_tags n → n ≤ most_tags → Links p g most_tags most_tags
links-all {p} {g} {n} K l = record {
  down = λ x h. K.down x (young x h);
  rise = λ x h. K.rise x (young x h);
  once = λ x y h q. K.once x y (young x h) q;
  age = λ x. elim (K.age x) [ inl h ↦ inl (omega arith) | inr h ↦ inr h ];
}
  where
    young : (x : ℕ) → g x < most_tags → g x < n
    young x h = elim (K.age x) [ inl k ↦ k | inr k ↦ absurd (omega arith) ]

pub past-forest : {N len n : ℕ} {w : List ℕ} → Past N len w n → Forested w
past-forest h = record { long = h.loaded.long; links = links-all h.history.links h.history.room }

pub holds-fewer : {w : List ℕ} {a b : ℕ} → a ≤ b → Holds w b → Holds w a
holds-fewer l h = record { tags = h.tags; len = h.len; joins = h.joins; past = h.past; reach = omega (arith, h.reach) }
