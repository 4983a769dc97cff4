-- `payload::strings::well_spelt` meets its contract: every byte of a string is of its alphabet.
-- Assumes nothing.
use Rattle.std.proofs.Common.{rules, tests}
use Rattle.std.proofs.lemmas.Iterator.{YieldsList-from_slice}
use Rattle.std.proofs.lemmas.Iterator.Search.{all_from_yields_List}
use Rattle.std.specs.List.{slice_range}
use Rattle.payload.specs.Strings.{string_byte}
use Rattle.payload.proofs.Leaves.{spelt}
use Rattle.payload.proofs.strings.well_spelt.Goals as goal

pub returns : goal.returns
returns c =
    let t = slice_range c.args.s.now c.args.from c.args.to in
    spelt c.args.s.now c.args.from c.args.to c.all.result (all_from_yields_List string_byte _ _ c.all.result c.all.ensures.ran (YieldsList-from_slice t cc) (λ x b q k. search (rules, tests)))
