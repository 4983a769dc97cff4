-- `checker_names::name_bytes` meets its contract: every byte of a part is a name's.
-- Assumes nothing.
use Rattle.std.proofs.Common.{rules, tests, refl}
use Rattle.paper.proofs.Chains.{all_of_part}
use Rattle.dictionary.specs.Accepts.{name_byte, name_byte_at}
use Rattle.checker_names.proofs.name_bytes.Goals as goal

pub returns : goal.returns
returns c =
    let a = c.args in
    all_of_part name_byte (name_byte_at a.d.now a.at) a.d.now a.at a.n (λ k. refl) c.requires (cc) c.all.ensures.ran (λ x b q k. search (rules, tests))
