-- Heads, by what the code has. Assumes nothing.
use Prim.Native.Nat.{ℕ}
use native.Mathlib.Omega.{arith}
use mathlib.Core.Path.{◌≡◌, sym, ◌∙◌, ap, subst}
use mathlib.Core.Logic.{◌≢◌}
use mathlib.Core.Bool.{Bool, true, false}
use mathlib.Core.List.{List}
use Rattle.script_terms.proofs.Tests.{eqb_yes, eqb_no}
use Rattle.script_meaning.specs.Reading.{is_there}
use Rattle.script_shelf.specs.declared.Counts.{Counts}
use Rattle.script_names.specs.Names.{Ready, Looks}
use Rattle.script_names.proofs.Held.{ready}
use Rattle.script_words.specs.Words.{Read}
use Rattle.script_heads.specs.Names.{Readable, Headed, outside, undeclared, declared, Heads}

pub look-ready : {s w : List ℕ} {c : Counts} {at kind from to : ℕ} → Readable s w c at → Read s at kind from to → kind ≡ 6 → Ready s w c from to
look-ready R L e = ready R.holding (let h = L.says.some (λ z. omega arith) in omega arith) L.inside

module _ {s w : List ℕ} {c : Counts} {at kind from to : ℕ} (R : Readable s w c at) (L : Read s at kind from to) where
  pub head-outside : kind ≢ 6 → (number takes to' : ℕ) → Heads s w c at 14 from number takes to'
  head-outside d number takes to' = record { headed = λ t fs H. subst (λ f. Headed s t at 14 f number takes to') (sym L.from_is) (outside (L.says.own ∙ eqb_no d)) }

  pub head-undeclared : kind ≡ 6 → {there : Bool} {m n : ℕ} → Looks s w c from to there m n → there ≡ false → (number takes to' : ℕ) → Heads s w c at 15 from number takes to'
  head-undeclared e K z number takes to' = record {
    headed = λ t fs H.
        let q = K.looked t fs H in
        subst (λ f. Headed s t at 15 f number takes to') (sym L.from_is) (undeclared (L.says.own ∙ eqb_yes e) (ap (is_there t.symbols) (L.says.text (omega arith)) ∙ sym q.there-is ∙ z));
  }

  pub head-declared : kind ≡ 6 → {there : Bool} {number takes : ℕ} → Looks s w c from to there number takes → there ≡ true → Heads s w c at 0 0 number takes to
  head-declared e K z = record {
    headed = λ t fs H.
        let q = K.looked t fs H in
        let k = L.says.text (omega arith) in
        declared (L.says.own ∙ eqb_yes e) (ap (is_there t.symbols) k ∙ sym q.there-is ∙ z) (q.number_is z ∙ rw k) (q.takes-is z ∙ rw k) L.behind (let h = L.says.some (λ z. omega arith) in omega (arith, L.on)) L.inside;
  }
