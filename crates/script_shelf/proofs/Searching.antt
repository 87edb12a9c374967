-- The search down a chain, by what its test says. Assumes nothing.
use Prim.Native.Nat.{ℕ, ◌+◌, ◌-◌, ◌≤◌, ◌<◌}
use native.Mathlib.Omega.{arith}
use mathlib.Core.Path.{◌≡◌, sym, ◌∙◌, subst}
use mathlib.Core.Logic.{◌≢◌}
use mathlib.Core.Bool.{Bool, true, false}
use mathlib.Core.List.{List}
use lib.Dec.{T, eqb}
use lib.ListN.{length, get_or}
use Rattle.std.specs.Prelude.{Some, None}
use Rattle.script_shelf.specs.Keys.{Chain}
use Rattle.script_shelf.proofs.Chains.{last-most}
use Rattle.script_shelf.specs.Search.{Linked, Keyed, Sought}
use Rattle.script_shelf.proofs.Seeking.{Seeking, seek-start, seek-on, seek_hit, seek-none}

-- A chain of keys leads down.
pub linked : {w : List ℕ} {links n head x : ℕ} {key : ℕ → ℕ} {pre : ℕ → Type 0} → Chain key (λ k. get_or w (links + k) 0) n x head → 32768 ≤ length w → links + n ≤ 32768 → ((k : ℕ) → k < n → pre k) → Linked w links n head pre
linked {n = n} {x = x} {key = key} C l c a = record {
  long = l;
  column = c;
  first = let h = last-most (λ i. eqb (key i) x) n in omega (arith, C.head-is);
  falls = λ k b. let h = last-most (λ i. eqb (key i) (key k)) k in omega (arith, C.links-are k b);
  asks = a;
}

-- Each test by which the chain is searched stands at this link.
pub record Climbing (w : List ℕ) (links n head : ℕ) (post : ℕ → Bool → Type 0) (link : ℕ) : Type 0 where
  pub most : link ≤ n
  pub seeks : {f : ℕ → Bool} {key : ℕ → ℕ} {x : ℕ} → Keyed w links n head post f key x → Seeking f key n x link

module _ {w : List ℕ} {links n head : ℕ} {pre : ℕ → Type 0} (L : Linked w links n head pre) (post : ℕ → Bool → Type 0) where
  pub climb-start : Climbing w links n head post head
  climb-start = record { most = L.first; seeks = λ {f} K. seek-start f K.same K.chain }

  module _ {link : ℕ} (C : Climbing w links n head post link) where
    module _ (d : link ≢ 0) where
      pub below : link - 1 < n
      below = omega (arith, C.most)

      pub climb-on : {v : Bool} {next : ℕ} → post (link - 1) v → v ≡ false → next ≡ get_or w (links + (link - 1)) 0 → Climbing w links n head post next
      climb-on p e q = record {
        most = omega (arith, L.falls (link - 1) below, below);
        seeks = λ {f} K. rw q (seek-on f K.same K.chain d (C.seeks K) (λ t. subst T (sym (K.says (link - 1) below _ p) ∙ e) t));
      }

      pub climb-falls : {next : ℕ} → next ≡ get_or w (links + (link - 1)) 0 → next < link
      climb-falls q = omega (arith, L.falls (link - 1) below, below)

      pub climb-hit : {v : Bool} → post (link - 1) v → v ≡ true → Sought w links n head post (Some (link - 1))
      climb-hit p e = record { found = λ {f} K. let h = seek_hit f K.same K.chain d (C.seeks K) (subst T (sym (sym (K.says (link - 1) below _ p) ∙ e)) tt) in (omega arith, below) }

    pub climb-missed : link ≡ 0 → Sought w links n head post None
    climb-missed e = record { found = λ {f} K. sym (seek-none f K.same K.chain e (C.seeks K)) }
