-- `desk_bytes::decode` meets its contract.
-- Assumes nothing.
use Rattle.std.proofs.Common.{rules, ◌*◌, drop, arith}
use Rattle.paper.specs.Limits.{desk_most}
use Rattle.desk_records.specs.Record.{empty}
use Rattle.desk_bytes.specs.Bytes.{record_bytes, decode_record}
use Rattle.desk_bytes.proofs.Decoding.{decode-not, decode-done, made_so}
use Rattle.desk_bytes.proofs.decode.Goals as goal

pub returns-then-s-ne-DESK_BYTES : goal.returns-then-s-ne-DESK_BYTES
returns-then-s-ne-DESK_BYTES c = decode-not _ c.if-s-ne-DESK_BYTES.true

pub returns : goal.returns
returns c =
    let f = c.from_fn.ensures.items in
    decode-done _ c.if-s-ne-DESK_BYTES.false _ f.long
    (λ i h. made_so _ _ _ (λ k. decode_record (drop (record_bytes * k) c.args.s.now)) (λ k y q e. search rules) desk_most 0 f.each i empty (omega arith) (omega arith))
