-- A position and its two parts.
use Rattle.std.proofs.Common.{◌≡◌, ℕ, ◌+◌, ◌*◌, ◌<◌, ◌≤◌, ◌&&◌, ltb, leb, Ok, Err, sym, ap, ◌∙◌, ap₂, inl, inr, arith}
use Rattle.std.proofs.lemmas.Nat.{div-mul-add, mod-mul-add, div-add-mod'}
use Rattle.std.proofs.lemmas.Bool.{cond-true, cond-false, and_from, and_parts, cases_Bool, le-leb, lt-ltb, ltb-true}
use Rattle.lists.specs.declared.refusal.Refusal.TheVariants.{NoSuchPlace}
use Rattle.lists.specs.declared.solver_contact_graph.GraphPos.{GraphPos}
use Rattle.lists.specs.Positions.{bucket_of, local_of, position, Sole}

abbrev packed : ℕ → ℕ → GraphPos
packed b l = record { word = b * 4194304 + l }

pub position_made : (b l : ℕ) → b ≤ 129 → l < 4194304 → position b l ≡ Ok (packed b l)
position_made b l h k = cond-true (leb b 129 && ltb l 4194304) _ _ (and_from (leb b 129) (ltb l 4194304) (le-leb b 129 h) (lt-ltb l 4194304 k))

-- what is made is of these two numbers, and both are in range
position_of : (b l : ℕ) (p : GraphPos) → position b l ≡ Ok p → (p.word ≡ b * 4194304 + l) × (l < 4194304)
position_of b l p e =
    elim (cases_Bool (leb b 129 && ltb l 4194304)) [
      | inl t ↦
          let q = sym (cond-true (leb b 129 && ltb l 4194304) (Ok (packed b l)) (Err NoSuchPlace) t) ∙ e in
          let s : packed b l ≡ p = cc in
          (sym (ap (λ x. x.word) s), ltb-true l 4194304 (and_parts (leb b 129) (ltb l 4194304) t).1)
      | inr f ↦
          let q = sym (cond-false (leb b 129 && ltb l 4194304) (Ok (packed b l)) (Err NoSuchPlace) f) ∙ e in
          let z : ◌≡◌ {A = ℕ} 0 1 = cc in
          absurd (omega arith)
    ]

pub sole : (b l : ℕ) → b ≤ 129 → l < 4194304 → Sole b l (packed b l)
sole b l h k =
    let p = packed b l in
    let d = div-mul-add b 4194304 l k in
    let m = mod-mul-add b 4194304 l k in
    record {
      bucket_again = d;
      local_again = m;
      position_again = ap₂ position d m ∙ position_made b l h k;
      sole = λ b' l' e. let t = position_of b' l' p e in (omega (arith, t.0, t.1), omega (arith, t.0, t.1));
      equal = λ q e. (ap bucket_of e ∙ d, ap local_of e ∙ m);
      alone = λ q x y. ap (λ n. record { word = n }) (sym (div-add-mod' q.word 4194304) ∙ ap₂ (λ n r. n * 4194304 + r) x y);
      some = λ e. omega arith;
    }
