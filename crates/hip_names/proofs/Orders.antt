-- The order of paths that are the same, and of those that begin alike.
use Rattle.hip_names.specs.PathLaws.{path_order_same, path_order_decides}
use Rattle.hip_names.proofs.Shared.{path_order-shared}

pub ruleset orders = (path_order_same, path_order_decides)

pub ruleset fronts = (path_order_same, path_order-shared)
