use Rattle.dp_cert.specs.Ranges.{yaw_rows}
use Rattle.dp_cert.proofs.ranges.yaw.Goals as goal

pub returns : goal.returns
unfolding yaw_rows
returns c = rw (c.key-8.ensures, c.key-7.ensures, c.key-6.ensures, c.key-5.ensures, c.key-4.ensures, c.key-3.ensures, c.key-2.ensures, c.key.ensures) (rw (c.are_shares.ensures, c.are_shares-2.ensures, c.are_shares-3.ensures, c.are_within.ensures, c.are_within-2.ensures, c.are_within-3.ensures, c.are_within-4.ensures, c.are_within-5.ensures) (rw (c.from_ref.ensures.value, c.from_ref-2.ensures.value, c.from_ref-3.ensures.value, c.from_ref-4.ensures.value, c.from_ref-5.ensures.value, c.from_ref-6.ensures.value, c.from_ref-7.ensures.value, c.from_ref-8.ensures.value)))
