-- Trimming takes no number out of a list exactly if none can be spared. Assumes nothing.
use Prim.Native.Nat.{ℕ, ◌+◌, ◌≤◌}
use native.Mathlib.Omega.{arith}
use mathlib.Core.Path.{◌≡◌, sym, ap, ◌∙◌}
use mathlib.Core.Logic.{◌↔◌, inl}
use mathlib.Core.Bool.{Bool, true, false}
use mathlib.Core.List.{List, Memᴰ}
use lib.Dec.{eqb}
use Rattle.meaning.specs.Following.{Follows, Only}
use Rattle.meaning.proofs.Close.{more_of}
use Rattle.meaning.proofs.Rising.{take_out, rising-short}
use Rattle.meaning.proofs.Short.{dec_among}
use Rattle.table.specs.Map.{list_of, list_in, records_in, place_of, Within}
use Rattle.table.proofs.Frame.{seen-within, within-trans, within_wider, length-gather, gather-same, gather-in, in-gather}
use Rattle.list_ways.specs.Halves.{Picked, Every}
use Rattle.list_add.specs.Filing.{Listing}
use Rattle.list_halve.specs.Halving.{Entailing}
use Rattle.reason_trim.specs.Trimming.{Copied, Followed, Pruned}
use Rattle.reason_trim.proofs.Closing.{place-list}
use Rattle.reason_order.specs.Rising.{Numbered, Sorted}
use Rattle.moment.proofs.Kept.{kept-records, kept-loaded, kept-past}
use Rattle.meaning.proofs.Tests.{is-not, is-so}
use Rattle.table.specs.Places.{FRONT, LIST, from_to, most_waiting, scratch, waiting_at}
use Rattle.moment.specs.declared.Question.{Question}
use Rattle.moment.specs.Posed.{Posed, Deciding}
use Rattle.reason_test.specs.Lists.{Listed, Moved, Named, Entailed, NoneSpare, Sufficient}

-- What is kept where only the list and what lies behind it is written.
pub posed-kept : {w w' : List ℕ} {q : Question} {e : ℕ} → Within (from_to LIST.at e) w w' → Posed w q → Posed w' q
posed-kept f p = record { past = kept-past f p.past; units = p.units; early = p.early; from = p.from; to = p.to }

listed-names : {w : List ℕ} {N len n : ℕ} → Listed N len n w → (k : ℕ) → Memᴰ k (list_in n w) → (1 ≤ k) × (k ≤ len)
listed-names {w} {N} {len} {n} l k m =
    let r = in-gather (list_of w) n k m in
    let b = l.named r.0 r.1 in
    (omega (arith, b.0, r.2), omega (arith, b.1, r.2))

pub listed_kept : {w w' : List ℕ} {N len e n : ℕ} → Within (from_to LIST.at e) w w' → ((x : ℕ) → Memᴰ x (list_in n w') → Memᴰ x (list_in n w)) → Listed N len n w → Listed N len n w'
listed_kept {w} {w'} {N} {len} {e} {n} f h l = record {
  loaded = kept-loaded f l.loaded;
  short = l.short;
  named = λ i m. listed-names l (list_of w' i) (h (list_of w' i) (gather-in (list_of w') n i m));
}

-- The list comes to where those wait that are tried.
pub moved : {n : ℕ} {w w' : List ℕ} → Copied w w' 0 waiting_at n → Moved n w w'
moved {n} {w} {w'} c = record { kept = c.kept; is = gather-same (λ j. list_of w' (waiting_at + j)) (list_of w) n (λ j o. let e : 0 + j ≡ j = omega arith in rw e at (c.copy j o)) }

-- What trimming leaves of a list, in rising order, is as many exactly if none of the list can be spared.
module _ {w w₁ : List ℕ} {q : Question} {n : ℕ} (h : Named w q n) (M : Moved n w w₁) where
  pub tight-followed : Entailed w q n → Followed q.size q.len q.s.0 q.t.0 w₁ n
  tight-followed e = record {
    loaded = kept-loaded M.kept h.posed.past.loaded;
    s-tag = h.posed.from;
    t-tag = h.posed.to;
    short = h.few;
    named = λ k i. listed-names h.listed k (rw M.is at i);
    entails = rw (kept-records M.kept q.len, M.is) e;
  }

  module _ {w₂ : List ℕ} {kept : ℕ} (P : Pruned q.size q.len q.s.0 q.t.0 w₁ w₂ n kept) where
    left_in : (x : ℕ) → Memᴰ x (list_in kept w₂) → Memᴰ x (list_in n w)
    left_in x i = rw M.is at (P.fewer x i)

    wide : Within scratch w w₂
    wide = within-trans (within_wider scratch (omega arith) (omega arith) M.kept) P.kept_in

    pub tight-numbered : Numbered w₂ q.len kept
    tight-numbered = record {
      long = omega (arith, h.posed.past.loaded.long, wide.size);
      most = h.posed.past.loaded.most;
      short = omega (arith, P.few, h.few);
      named = λ i l. listed-names h.listed (list_of w₂ i) (left_in (list_of w₂ i) (gather-in (list_of w₂) kept i l));
    }

    module _ {w₃ : List ℕ} {c : ℕ} (S : Sorted w₂ w₃ kept c) where
      -- If they are as many, no number went.
      all_left : c ≡ n → (x : ℕ) → Memᴰ x (list_in n w) → Memᴰ x (list_in kept w₂)
      all_left e x i = go (dec_among (list_in kept w₂) x)
        where
          go : Dec (Memᴰ x (list_in kept w₂)) → Memᴰ x (list_in kept w₂)
          go (yes k) = k
          go (no k) =
              let r = take_out x (list_in n w) i in
              let b = rising-short 0 (list_in c w₃) r.0 S.rising (λ y j. let o = (S.same y).1 j in r.2 y (λ z. k (rw z at o)) (left_in y o)) in
              absurd (omega (arith, r.1, b, length-gather (list_of w) n, length-gather (list_of w₃) c))

      -- A number that went can be spared, since what is left entails.
      none-went : NoneSpare w q n → (x : ℕ) → Memᴰ x (list_in n w) → Memᴰ x (list_in kept w₂)
      none-went u x i = go (dec_among (list_in kept w₂) x)
        where
          go : Dec (Memᴰ x (list_in kept w₂)) → Memᴰ x (list_in kept w₂)
          go (yes k) = k
          go (no k) = absurd (u.unspared x i (more_of (λ y j. (left_in y j, λ z. k (rw z at j))) (rw (kept-records wide q.len) at P.entails)))

      pub tight-decided : Deciding (NoneSpare w q n) w w₃ (eqb c n)
      tight-decided = record {
        kept = within-trans wide (within_wider scratch (omega arith) (omega arith) S.kept);
        exact = is-so c n
            (λ e. record { unspared = λ m i f. P.unspared m (all_left e m i) (rw (kept-records wide q.len) (more_of (λ y j. (all_left e y j.0, j.1)) f)) })
            (λ u.
            let few = rising-short 0 (list_in c w₃) (list_in n w) S.rising (λ y j. left_in y ((S.same y).1 j)) in
            let many = rising-short 0 h.ordered (list_in c w₃) h.rising (λ y j. (S.same y).0 (none-went u y ((h.same y).0 j))) in
            omega (arith, few, many, h.many, length-gather (list_of w) n, length-gather (list_of w₃) c));
      }

-- The closure of the list.
pub named-listing : {w : List ℕ} {q : Question} {n : ℕ} → Named w q n → Listing q.size q.len n w
named-listing {w} {q} {n} g = record { loaded = g.listed.loaded; short = omega (arith, g.few); named = λ j l. rw (place-list w j (omega (arith, g.few))) (g.listed.named j l) }

module _ {w w' : List ℕ} {len n s t : ℕ} {answer : Bool} (few : n ≤ most_waiting) (h : Entailing len n s t w w' answer) where
  pub list_same : list_in n w' ≡ list_in n w
  list_same = gather-same (list_of w') (list_of w) n (λ j l. sym (place-list w' j (omega arith)) ∙ ap (λ (f : ℕ → ℕ). f j) (seen-within FRONT h.kept (inl (omega arith))) ∙ place-list w j (omega arith))

  pub entailing-kept : Within scratch w w'
  entailing-kept = within_wider scratch (omega arith) (omega arith) h.kept

  pub entailing-only : (answer ≡ true) ↔ Follows (Only (records_in len w) (list_in n w)) s t
  entailing-only = ((λ e. more_of there (h.exact.0 e)), λ f. h.exact.1 (more_of back f))
    where
      there : (k : ℕ) → Picked (place_of w) n Every k → Memᴰ k (list_in n w)
      there k i = rw (← i.3, place-list w i.0 (omega (arith, i.1))) (gather-in (list_of w) n i.0 i.1)

      back : (k : ℕ) → Memᴰ k (list_in n w) → Picked (place_of w) n Every k
      back k i = let x = in-gather (list_of w) n k i in (x.0, x.1, tt, place-list w x.0 (omega (arith, x.1)) ∙ x.2)

-- The list entails, and then none is spare.
module _ {w w' : List ℕ} (q : Question) {n : ℕ} {answer : Bool} (few : n ≤ most_waiting) (h : Entailing q.len n q.s.0 q.t.0 w w' answer) where
  pub named-after : Named w q n → Named w' q n
  named-after g = record {
    posed = posed-kept (entailing-kept few h) g.posed;
    listed = listed_kept (entailing-kept few h) (λ x m. rw (list_same few h) at m) g.listed;
    few = g.few;
    ordered = g.ordered;
    rising = g.rising;
    many = g.many;
    same = rw (list_same few h) g.same;
  }

  pub entailed-after : answer ≡ true → Entailed w' q n
  entailed-after e = rw (list_same few h, kept-records (entailing-kept few h) q.len) ((entailing-only few h).0 e)

  pub not-serving : answer ≡ false → Deciding (Sufficient w q n) w w' false
  not-serving e = record {
    kept = entailing-kept few h;
    exact = is-not (λ s. let t : answer ≡ true = (entailing-only few h).1 s.entails in let z : ◌≡◌ {A = ℕ} 0 1 = cc in omega arith);
  }

  pub serving : {w'' : List ℕ} {last : Bool} → answer ≡ true → Deciding (NoneSpare w' q n) w' w'' last → Deciding (Sufficient w q n) w w'' last
  serving {w''} {last} e d =
      let x : (last ≡ true) ↔ NoneSpare w q n = rw (list_same few h, kept-records (entailing-kept few h) q.len) at d.exact in
      record {
        kept = within-trans (entailing-kept few h) d.kept;
        exact = (λ t. record { entails = (entailing-only few h).0 e; unspared = x.0 t }, λ s. x.1 s.unspared);
      }
