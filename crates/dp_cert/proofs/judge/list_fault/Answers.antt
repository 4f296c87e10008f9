use Rattle.std.proofs.Common.{inl, inr, lit<}
use Rattle.dp_cert.proofs.judge.list_fault.Goals as goal

-- the first part is that the lists fit the memory
pub first_too_wide-requires : goal.first_too_wide-requires
first_too_wide-requires g c =
    let sound = c.first_shape.ensures.sound c.in-None.is in
    (elim c.requires.size [ inl e ↦ rw e (lit< tt) | inr e ↦ rw e (lit< tt) ], (c.requires.size, (c.requires.numbers, (c.requires.lists, (sound.rate, sound.shape)))))
