-- What `array::from_fn` made has to be asked at each bucket; the check does not do that alone.
use Rattle.std.proofs.Common.{[], inl, inr, rules, arith}
use Rattle.std.proofs.lemmas.Bool.{cases_lt}
use Rattle.std.proofs.lemmas.List.{get_or_past}
use Rattle.tray.proofs.buckets.Buckets.new.Goals as goal

pub returns : goal.returns
returns c = λ b.
    elim (cases_lt b 130) [
      | inl h ↦ let t = c.from_fn.ensures.items.at b [] h in search rules
      | inr h ↦ let l = c.from_fn.ensures.items.long in get_or_past c.from_fn.result b [] (omega arith)
    ]
