use Rattle.std.proofs.Common.{◌≡◌, rules, refl}
use Rattle.std.specs.Int.{w8, w16, w64, to_le_bytes, cast_unsigned}
use Rattle.packed_chunk.specs.Rows.{all_bytes}
use Rattle.packed_chunk.proofs.whole.angle_bytes.Goals as goal

pub returns : goal.returns
unfolding all_bytes
returns c =
    let angle : c.to_le_bytes-angle.result ≡ to_le_bytes w64 (cast_unsigned w64 c.args.p.now.scan_angle_rank) = search rules in
    let user : c.one_byte-user.result ≡ to_le_bytes w8 c.args.p.now.user_data = c.one_byte-user.ensures in
    let source : c.to_le_bytes-source.result ≡ to_le_bytes w16 (c.args.p.now.point_source_id) = search rules in
    rw (angle, user, source) refl
