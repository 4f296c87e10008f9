use Rattle.dp_frame.proofs.PieceFrames.{piece-gives, piece-told}
use Rattle.dp_frame.proofs.laws.piece_gives.Goals as goal

pub returns : goal.returns
returns c = λ p t piece feed some a.
    let tells = piece-told p t piece feed a in (piece-gives p t piece feed some a, tells.0, tells.1)
