-- `desk_bytes::encode` meets its contract. The loop keeps that the records before this one are written.
-- Assumes nothing.
use Rattle.std.proofs.Common.{rules, refl, arith}
use Rattle.desk_bytes.proofs.Encoding.{encodes, encode-start, encode-done}
use Rattle.desk_bytes.proofs.encode.Goals as goal

pub loop-r-init : goal.loop-r-init
loop-r-init c = encode-start _ _ (search rules) c.if-out-ne-DESK_BYTES.false refl

pub put_record-requires : goal.put_record-requires
put_record-requires c = search (encodes, rules)

pub loop-r-preserved : goal.loop-r-preserved
loop-r-preserved c = search (encodes, rules)

pub returns : goal.returns
returns c = encode-done c.args.d _ (search rules) c.if-out-ne-DESK_BYTES.false refl _ _ c.loop-r.invariant (omega arith) _ (search rules)
