use Rattle.std.proofs.Common.{refl, inl, inr, lit<}
use Rattle.dp_cert.proofs.PartFacts.{lists_three, lists_five, narrow_three, narrow_five}
use Rattle.dp_cert.proofs.ValidFacts.{rate_of, numbers_of}
use Rattle.dp_cert.proofs.accepted.Accepted.inside.Goals as goal

pub is_inside-requires : goal.is_inside-requires
is_inside-requires c =
    let a = c.args.self.now in let l = c.in-Three.l in let e = c.in-Three.is in (
      lit< tt,
      (
        lit< tt,
        (
          inl refl,
          (
            numbers_of a.gains a.yaw a.cert a.valid,
            (
              lists_three a.gains a.yaw a.cert l a.valid e,
              (
                rate_of a.gains a.cert a.valid.no_fault,
                (
                  (a.sound.three l e).shape,
                  (
                    a.sound.three_spans l e,
                    (
                      narrow_three a.gains a.yaw a.cert l a.valid e,
                      (c.three.ensures.long, c.three-in-Three.ensures.long),
                    ),
                  ),
                ),
              ),
            ),
          ),
        ),
      ),
    )

pub is_inside-requires-in-Five : goal.is_inside-requires-in-Five
is_inside-requires-in-Five c =
    let a = c.args.self.now in let l = c.in-Five.l in let e = c.in-Five.is in (
      lit< tt,
      (
        lit< tt,
        (
          inr refl,
          (
            numbers_of a.gains a.yaw a.cert a.valid,
            (
              lists_five a.gains a.yaw a.cert l a.valid e,
              (
                rate_of a.gains a.cert a.valid.no_fault,
                (
                  (a.sound.five l e).shape,
                  (
                    a.sound.five_spans l e,
                    (
                      narrow_five a.gains a.yaw a.cert l a.valid e,
                      (c.five.ensures.long, c.five-in-Five.ensures.long),
                    ),
                  ),
                ),
              ),
            ),
          ),
        ),
      ),
    )
