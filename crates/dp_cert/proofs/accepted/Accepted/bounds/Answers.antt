use Rattle.dp_cert.proofs.ValidFacts.{rate_of, numbers_of}
use Rattle.dp_cert.proofs.accepted.Accepted.bounds.Goals as goal

pub bound_of-requires-clause-numbers : goal.bound_of-requires-clause-numbers
bound_of-requires-clause-numbers c = let s = c.args.self.now in numbers_of s.gains s.yaw s.cert s.valid

pub bound_of-requires-clause-rate : goal.bound_of-requires-clause-rate
bound_of-requires-clause-rate c = let s = c.args.self.now in rate_of s.gains s.cert s.valid.no_fault
