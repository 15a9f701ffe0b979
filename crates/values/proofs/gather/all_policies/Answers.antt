-- Each element is what the call at its index answers. Assumes nothing.
use Rattle.std.proofs.Common.{rules}
use Rattle.values.specs.Values.{unasked}
use Rattle.values.proofs.Made.{made_table}
use Rattle.values.proofs.gather.all_policies.Goals as goal

pub returns : goal.returns
returns c = made_table _ _ _ (λ i y q k. search rules) unasked _ 32 c.from_fn.ensures.items
