use Rattle.dp_form.proofs.Triangle.{triangle, plane_triangle}
use Rattle.dp_form.proofs.laws.triangle.Goals as goal

pub returns : goal.returns
returns c = record { of_vectors = triangle; in_the_plane = plane_triangle }
