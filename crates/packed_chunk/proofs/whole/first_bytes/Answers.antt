use Rattle.std.proofs.Common.{◌≡◌, rules, refl}
use Rattle.std.specs.Int.{w8, w16, w64, to_le_bytes, cast_unsigned}
use Rattle.packed_chunk.specs.Rows.{all_bytes}
use Rattle.packed_chunk.proofs.whole.first_bytes.Goals as goal

pub returns : goal.returns
unfolding all_bytes
returns c =
    let x : c.to_le_bytes-x.result ≡ to_le_bytes w64 (cast_unsigned w64 c.args.p.now.x) = search rules in
    let y : c.to_le_bytes-y.result ≡ to_le_bytes w64 (cast_unsigned w64 c.args.p.now.y) = search rules in
    let z : c.to_le_bytes-z.result ≡ to_le_bytes w64 (cast_unsigned w64 c.args.p.now.z) = search rules in
    let light : c.to_le_bytes-light.result ≡ to_le_bytes w16 (c.args.p.now.intensity) = search rules in
    let number : c.one_byte-number.result ≡ to_le_bytes w8 c.args.p.now.return_number = c.one_byte-number.ensures in
    let count : c.one_byte-returns.result ≡ to_le_bytes w8 c.args.p.now.number_of_returns = c.one_byte-returns.ensures in
    let direction : c.one_byte-direction.result ≡ to_le_bytes w8 c.args.p.now.scan_direction_flag = c.one_byte-direction.ensures in
    let edge : c.one_byte-edge.result ≡ to_le_bytes w8 c.args.p.now.edge_of_flight_line = c.one_byte-edge.ensures in
    let class : c.one_byte-class.result ≡ to_le_bytes w8 c.args.p.now.classification = c.one_byte-class.ensures in
    let synthetic : c.one_byte-synthetic.result ≡ to_le_bytes w8 c.args.p.now.synthetic = c.one_byte-synthetic.ensures in
    let key : c.one_byte-key.result ≡ to_le_bytes w8 c.args.p.now.key_point = c.one_byte-key.ensures in
    let withheld : c.one_byte-withheld.result ≡ to_le_bytes w8 c.args.p.now.withheld = c.one_byte-withheld.ensures in
    rw (x, y, z, light, number, count, direction, edge, class, synthetic, key, withheld) refl
