use Rattle.std.proofs.Common.{◌≡◌, ◌++◌, ◌+◌, ◌*◌, drop, length}
use Rattle.std.specs.List.{flat_map}
use Rattle.cl_mean.specs.Shape.{members_of, structs_of}
use Rattle.rpc_codec.specs.Leaves.{member_leaves}
use Rattle.rpc_codec.proofs.leaves.+leaves.Given as goal

-- each struct is known by the items before it
abbrev pub decreases-push_all : goal.decreases-push_all
decreases-push_all l = 3 * length l.items.now + 2

abbrev pub decreases-push_struct : goal.decreases-push_struct
decreases-push_struct l = 3 * length l.items.now

abbrev pub decreases-push_type : goal.decreases-push_type
decreases-push_type l = 3 * length l.items.now + 1

abbrev pub invariant-push_all-loop-name : goal.invariant-push_all-loop-name
invariant-push_all-loop-name l =
    l.out.items ++ member_leaves (members_of (structs_of l.items) (drop l.name-index l.names)) l.on l.path
    ≡ l.initial.out.items ++ member_leaves (members_of (structs_of l.items) l.names) l.on l.path

abbrev pub invariant-push_struct-loop-declaration : goal.invariant-push_struct-loop-declaration
invariant-push_struct-loop-declaration l =
    l.out.items ++ member_leaves (members_of (structs_of l.known.before.now) (flat_map (λ d. d.names) (drop l.declaration-index l.declaration-items))) l.on l.path
    ≡ l.initial.out.items ++ member_leaves (members_of (structs_of l.known.before.now) (flat_map (λ d. d.names) l.declaration-items)) l.on l.path
