use Rattle.std.proofs.Common.{◌≡◌, ℕ, ◌*◌, ◌/◌, ◌<◌, ◌++◌, length, slice_index, sym}
use Rattle.std.proofs.Common.{◌∙◌, subst, arith}
use Rattle.flow_shop.specs.Directions.{first_with, last_with}
use Rattle.flow_shop.specs.declared.end.End.TheVariants.{Front, Back}
use Rattle.flow_nodes.specs.Nodes.{IsNode}
use Rattle.flow_nodes.specs.Open.{HasStartRoom, IsOpenNode}
use Rattle.flow_nodes.specs.internal.Pairs.{AreRests}
use Rattle.flow_nodes.proofs.PairSteps.{constant-is, node-fits}
use Rattle.flow_nodes.proofs.JobsMarked.{marked-left}
use Rattle.flow_nodes.proofs.OpenSteps.{kept-children, kept-starts}
use Rattle.flow_nodes.proofs.PutSteps.{cleared-apart, cleared-was, put-job, put-fresh, put-below, put-row, put-left}
use Rattle.flow_nodes.proofs.opener.Opener.open_child_of.Goals as goal

pub become_child-requires-clause-at : goal.become_child-requires-clause-at
become_child-requires-clause-at g c =
    let at = c.requires.at in
    let end = c.args.put.end in
    let place : ℕ = c.args.put.place in (
      at.1,
      at.2,
      slice_index c.args.pack.now.names.items place,
      at.3.is_node,
      put-job at.3 at.4 end place at.8 at.9,
      put-fresh at.3 at.4 end place at.8 at.9,
      put-row at.3 at.4 end place at.8 at.9 c.args.self.now.rows.items c.index.result.now c.from.result
          c.index-row.result.now at.5.rows c.index.ensures c.from.ensures c.index-row.ensures,
    )

pub become_child-requires-clause-constant : goal.become_child-requires-clause-constant
become_child-requires-clause-constant g c = constant-is (sym c.requires.at.5.machines) c.requires.constant

pub open_at-requires-clause-at : goal.open_at-requires-clause-at
open_at-requires-clause-at g c =
    let at = c.requires.at in
    let end = c.args.put.end in
    let place : ℕ = c.args.put.place in
    let job : ℕ = slice_index c.args.pack.now.names.items place in (
      c.args.instance.now,
      at.0,
      first_with end at.1 job,
      last_with end at.2 job,
      c.become_child.ensures at.1 at.2 job at.3.is_node (put-job at.3 at.4 end place at.8 at.9)
          (put-fresh at.3 at.4 end place at.8 at.9)
          (put-row at.3 at.4 end place at.8 at.9 c.args.self.now.rows.items c.index.result.now c.from.result
          c.index-row.result.now at.5.rows c.index.ensures c.from.ensures c.index-row.ensures),
      at.4,
      at.5,
      at.6,
      put-below at.3 at.4 end place at.8 at.9,
      at.11.at_front,
    )

pub pairs_of_sums-rest-requires-clause-few : goal.pairs_of_sums-rest-requires-clause-few
pairs_of_sums-rest-requires-clause-few g c =
    let at = c.requires.at in
    let shop = c.args.instance.now in
    let end = c.args.put.end in
    let place : ℕ = c.args.put.place in
    let job : ℕ = slice_index c.args.pack.now.names.items place in
    let node = c.become_child.new.self in
    let is = c.become_child.ensures at.1 at.2 job at.3.is_node (put-job at.3 at.4 end place at.8 at.9)
    (put-fresh at.3 at.4 end place at.8 at.9)
    (put-row at.3 at.4 end place at.8 at.9 c.args.self.now.rows.items c.index.result.now c.from.result
    c.index-row.result.now at.5.rows c.index.ensures c.from.ensures c.index-row.ensures) in
    omega (arith, at.5.machines, is.limits.machines)

pub pairs_of_sums-rest-requires-clause-fit : goal.pairs_of_sums-rest-requires-clause-fit
pairs_of_sums-rest-requires-clause-fit g c on low =
    let at = c.requires.at in
    let shop = c.args.instance.now in
    let end = c.args.put.end in
    let place : ℕ = c.args.put.place in
    let job : ℕ = slice_index c.args.pack.now.names.items place in
    let node = c.become_child.new.self in
    let is = c.become_child.ensures at.1 at.2 job at.3.is_node (put-job at.3 at.4 end place at.8 at.9)
    (put-fresh at.3 at.4 end place at.8 at.9)
    (put-row at.3 at.4 end place at.8 at.9 c.args.self.now.rows.items c.index.result.now c.from.result
    c.index-row.result.now at.5.rows c.index.ensures c.from.ensures c.index-row.ensures) in
    omega (
      arith,
      (node-fits shop (first_with end at.1 job) (last_with end at.2 job) node g.V.Vector.CAP at.0 c.args.self.now.limit is
          (put-below at.3 at.4 end place at.8 at.9) at.6 c.requires.limit on (omega (arith, low, at.5.machines))).0,
    )

pub pairs_of_sums-rest-requires-clause-small : goal.pairs_of_sums-rest-requires-clause-small
pairs_of_sums-rest-requires-clause-small g c on low =
    let at = c.requires.at in
    let shop = c.args.instance.now in
    let end = c.args.put.end in
    let place : ℕ = c.args.put.place in
    let job : ℕ = slice_index c.args.pack.now.names.items place in
    let node = c.become_child.new.self in
    let is = c.become_child.ensures at.1 at.2 job at.3.is_node (put-job at.3 at.4 end place at.8 at.9)
    (put-fresh at.3 at.4 end place at.8 at.9)
    (put-row at.3 at.4 end place at.8 at.9 c.args.self.now.rows.items c.index.result.now c.from.result
    c.index-row.result.now at.5.rows c.index.ensures c.from.ensures c.index-row.ensures) in
    omega (
      arith,
      (node-fits shop (first_with end at.1 job) (last_with end at.2 job) node g.V.Vector.CAP at.0 c.args.self.now.limit is
          (put-below at.3 at.4 end place at.8 at.9) at.6 c.requires.limit on (omega (arith, low, at.5.machines))).1,
    )

pub pairs_of_sums-rest-requires-in-Back-clause-few : goal.pairs_of_sums-rest-requires-in-Back-clause-few
pairs_of_sums-rest-requires-in-Back-clause-few g c =
    let at = c.requires.at in
    let shop = c.args.instance.now in
    let end = c.args.put.end in
    let place : ℕ = c.args.put.place in
    let job : ℕ = slice_index c.args.pack.now.names.items place in
    let node = c.become_child.new.self in
    let is = c.become_child.ensures at.1 at.2 job at.3.is_node (put-job at.3 at.4 end place at.8 at.9)
    (put-fresh at.3 at.4 end place at.8 at.9)
    (put-row at.3 at.4 end place at.8 at.9 c.args.self.now.rows.items c.index.result.now c.from.result
    c.index-row.result.now at.5.rows c.index.ensures c.from.ensures c.index-row.ensures) in
    omega (arith, at.5.machines, is.limits.machines)

pub pairs_of_sums-rest-requires-in-Back-clause-fit : goal.pairs_of_sums-rest-requires-in-Back-clause-fit
pairs_of_sums-rest-requires-in-Back-clause-fit g c on low =
    let at = c.requires.at in
    let shop = c.args.instance.now in
    let end = c.args.put.end in
    let place : ℕ = c.args.put.place in
    let job : ℕ = slice_index c.args.pack.now.names.items place in
    let node = c.become_child.new.self in
    let is = c.become_child.ensures at.1 at.2 job at.3.is_node (put-job at.3 at.4 end place at.8 at.9)
    (put-fresh at.3 at.4 end place at.8 at.9)
    (put-row at.3 at.4 end place at.8 at.9 c.args.self.now.rows.items c.index.result.now c.from.result
    c.index-row.result.now at.5.rows c.index.ensures c.from.ensures c.index-row.ensures) in
    omega (
      arith,
      (node-fits shop (first_with end at.1 job) (last_with end at.2 job) node g.V.Vector.CAP at.0 c.args.self.now.limit is
          (put-below at.3 at.4 end place at.8 at.9) at.6 c.requires.limit on (omega (arith, low, at.5.machines))).0,
    )

pub pairs_of_sums-rest-requires-in-Back-clause-small : goal.pairs_of_sums-rest-requires-in-Back-clause-small
pairs_of_sums-rest-requires-in-Back-clause-small g c on low =
    let at = c.requires.at in
    let shop = c.args.instance.now in
    let end = c.args.put.end in
    let place : ℕ = c.args.put.place in
    let job : ℕ = slice_index c.args.pack.now.names.items place in
    let node = c.become_child.new.self in
    let is = c.become_child.ensures at.1 at.2 job at.3.is_node (put-job at.3 at.4 end place at.8 at.9)
    (put-fresh at.3 at.4 end place at.8 at.9)
    (put-row at.3 at.4 end place at.8 at.9 c.args.self.now.rows.items c.index.result.now c.from.result
    c.index-row.result.now at.5.rows c.index.ensures c.from.ensures c.index-row.ensures) in
    omega (
      arith,
      (node-fits shop (first_with end at.1 job) (last_with end at.2 job) node g.V.Vector.CAP at.0 c.args.self.now.limit is
          (put-below at.3 at.4 end place at.8 at.9) at.6 c.requires.limit on (omega (arith, low, at.5.machines))).1,
    )

pub keep_children-requires-clause-room : goal.keep_children-requires-clause-room
keep_children-requires-clause-room g c =
    let at = c.requires.at in
    let shop = c.args.instance.now in
    let end = c.args.put.end in
    let place : ℕ = c.args.put.place in
    let job : ℕ = slice_index c.args.pack.now.names.items place in
    let node = c.become_child.new.self in
    let is = c.become_child.ensures at.1 at.2 job at.3.is_node (put-job at.3 at.4 end place at.8 at.9)
    (put-fresh at.3 at.4 end place at.8 at.9)
    (put-row at.3 at.4 end place at.8 at.9 c.args.self.now.rows.items c.index.result.now c.from.result
    c.index-row.result.now at.5.rows c.index.ensures c.from.ensures c.index-row.ensures) in
    let long = c.args.pack.now.groups.ok.0 in (
      shop,
      at.5.machines,
      is.limits.machines,
      record {
        enough = omega (arith, at.10.at_back.enough, c.len-groups.ensures, long);
        machines = at.10.at_back.machines;
      },
      record {
        enough = omega (arith, at.11.at_back.enough, c.len-groups.ensures, long);
        machines = at.11.at_back.machines;
      },
    )

pub returns-in-Front-clause-room : goal.returns-in-Front-clause-room
returns-in-Front-clause-room g c shop groups room = record {
  at_front = c.open_at.ensures.room shop groups room.at_front;
  at_back = c.keep_children.ensures.room shop groups room.at_back;
  front_bounds = omega (arith, c.open_at.ensures.bound_count, room.front_bounds);
  back_bounds = omega (arith, c.keep_children.ensures.bound_count, room.back_bounds);
}

pub returns-in-Front-clause-child : goal.returns-in-Front-clause-child
returns-in-Front-clause-child g c threshold first last is is_pack has_room limit marked =
    let shop = c.args.instance.now in
    let list = g.V.Vector.list in
    let cap = g.V.Vector.CAP in
    let width = g.V.Vector.WIDTH in
    let end = c.args.put.end in
    let place : ℕ = c.args.put.place in
    let inside = c.requires.at.8 in
    let names = c.args.pack.now.names.items in
    let job : ℕ = slice_index names place in
    let node = c.become_child.new.self in
    let old = c.args.parent.now.left in
    let left = c.clear.new.self in
    let kept = c.args.parent.now.back.below in
    let begin = c.clear-in-Front.new.self in
    let room : HasStartRoom shop c.len-groups.result c.args.parent.now.back.starts.items = record {
      enough = omega (
        arith,
        c.requires.at.10.at_back.enough,
        c.len-groups.ensures,
        c.args.pack.now.groups.ok.0,
      );
      machines = c.requires.at.10.at_back.machines;
    } in
    let rests : AreRests g.V.Vector.pair_of cap shop.machines Back node c.pairs_of_sums-rest.result =
    λ on low.
    let at = c.requires.at in
    let put : ℕ = slice_index c.args.pack.now.names.items place in
    let fits = node-fits shop (first_with end at.1 put) (last_with end at.2 put) node cap at.0 c.args.self.now.limit
    (c.become_child.ensures at.1 at.2 put at.3.is_node (put-job at.3 at.4 end place at.8 at.9)
    (put-fresh at.3 at.4 end place at.8 at.9)
    (put-row at.3 at.4 end place at.8 at.9 c.args.self.now.rows.items c.index.result.now c.from.result
    c.index-row.result.now at.5.rows c.index.ensures c.from.ensures c.index-row.ensures))
    (put-below at.3 at.4 end place at.8 at.9) at.6 c.requires.limit on low in
    (c.pairs_of_sums-rest.ensures on (omega (arith, low, has_room.machines)), omega (arith, fits.0)) in
    let range = put-job is is_pack end place inside marked in
    let fresh = put-fresh is is_pack end place inside marked in
    let is_node : IsNode shop (first_with Front first job) (last_with Front last job) node =
    subst (λ end. IsNode shop (first_with end first job) (last_with end last job) node) c.in-Front.is
    (c.become_child.ensures first last job is.is_node range fresh
    (put-row is is_pack end place inside marked c.args.self.now.rows.items c.index.result.now c.from.result
    c.index-row.result.now has_room.rows c.index.ensures c.from.ensures c.index-row.ensures)) in
    let has_left = put-left is is_pack end place inside marked Front left c.clear.ensures.parted in
    let count : length names ≡ c.len-groups.result * 16 =
    omega (arith, is_pack.room.names, c.len-groups.ensures, c.args.pack.now.groups.ok.0) in
    let under : (at : ℕ) → at < length names → at / 16 < c.len-groups.result = λ at low. omega (arith, low, count) in
    subst (λ end. IsOpenNode list cap width shop threshold (first_with end first job) (last_with end last job)
    c.args.pack.now (record {
      node = node;
      left = left;
      front = c.open_at.new.children;
      back = c.keep_children.new.children;
    })) (sym c.in-Front.is) (record {
      is_node = is_node;
      has_left = has_left;
      at_front = c.open_at.ensures.children shop threshold (first_with Front first job) (last_with Front last job)
          limit is_node is_pack has_left;
      at_back = kept-children list cap width shop threshold Front first last names job c.args.parent.now.node old left
          c.args.parent.now.back c.keep_children.new.children is.is_node range fresh is.has_left has_left
          (cleared-was old.words left.words place c.clear.ensures.same c.clear.ensures.others)
          is_pack.room.jobs is.at_back
          (λ at low one.
          let cleared = c.keep_children.ensures.within at (under at low) one in
          let was = cleared-was kept.words begin.words place c.clear-in-Front.ensures.same
          c.clear-in-Front.ensures.others at cleared in
          let apart = cleared-apart kept.words begin.words place c.clear-in-Front.ensures.same
          c.clear-in-Front.ensures.others at cleared in
          (c.clear.ensures.others at apart ∙ is.at_back.within at low was, was))
          (λ at low was also. c.keep_children.ensures.exact shop threshold Back (first_with Front first job)
          (last_with Front last job) (slice_index names at) node at limit room is_node
          rests (is_pack.room.jobs at low)
          (marked-left shop.jobs (first_with Front first job ++ last_with Front last job) left.words names has_left at
          low was) (under at low)
          (c.clear-in-Front.ensures.others at
          (cleared-apart old.words left.words place c.clear.ensures.same c.clear.ensures.others at was) ∙ also)
          (λ none.
          let was_known = is.at_back.known at low also in
          kept-starts list cap width shop Front first last names job old c.args.parent.now.back is.at_back at none
          was_known.0 low (is.at_back.within at low also) was_known.1))
          (λ at before low one was. c.keep_children.ensures.known at before (under at low) one was)
          (λ at none bounds low was same starts. c.keep_children.ensures.whole shop Back (first_with Front first job)
          (last_with Front last job) (slice_index names at) node at none bounds room is_node rests
          (is_pack.room.jobs at low)
          (marked-left shop.jobs (first_with Front first job ++ last_with Front last job) left.words names has_left at
          low was) (under at low) same starts)
          (c.keep_children.ensures.count names count);
    })

pub open_at-requires-in-Back-clause-at : goal.open_at-requires-in-Back-clause-at
open_at-requires-in-Back-clause-at g c =
    let at = c.requires.at in
    let end = c.args.put.end in
    let place : ℕ = c.args.put.place in
    let job : ℕ = slice_index c.args.pack.now.names.items place in (
      c.args.instance.now,
      at.0,
      first_with end at.1 job,
      last_with end at.2 job,
      c.become_child.ensures at.1 at.2 job at.3.is_node (put-job at.3 at.4 end place at.8 at.9)
          (put-fresh at.3 at.4 end place at.8 at.9)
          (put-row at.3 at.4 end place at.8 at.9 c.args.self.now.rows.items c.index.result.now c.from.result
          c.index-row.result.now at.5.rows c.index.ensures c.from.ensures c.index-row.ensures),
      at.4,
      at.5,
      at.6,
      put-below at.3 at.4 end place at.8 at.9,
      at.11.at_back,
    )

pub keep_children-requires-in-Back-clause-room : goal.keep_children-requires-in-Back-clause-room
keep_children-requires-in-Back-clause-room g c =
    let at = c.requires.at in
    let shop = c.args.instance.now in
    let end = c.args.put.end in
    let place : ℕ = c.args.put.place in
    let job : ℕ = slice_index c.args.pack.now.names.items place in
    let node = c.become_child.new.self in
    let is = c.become_child.ensures at.1 at.2 job at.3.is_node (put-job at.3 at.4 end place at.8 at.9)
    (put-fresh at.3 at.4 end place at.8 at.9)
    (put-row at.3 at.4 end place at.8 at.9 c.args.self.now.rows.items c.index.result.now c.from.result
    c.index-row.result.now at.5.rows c.index.ensures c.from.ensures c.index-row.ensures) in
    let long = c.args.pack.now.groups.ok.0 in (
      shop,
      at.5.machines,
      is.limits.machines,
      record {
        enough = omega (arith, at.10.at_front.enough, c.len-groups.ensures, long);
        machines = at.10.at_front.machines;
      },
      record {
        enough = omega (arith, at.11.at_front.enough, c.len-groups.ensures, long);
        machines = at.11.at_front.machines;
      },
    )

pub returns-in-Back-clause-room : goal.returns-in-Back-clause-room
returns-in-Back-clause-room g c shop groups room = record {
  at_back = c.open_at-in-Back.ensures.room shop groups room.at_back;
  at_front = c.keep_children-in-Back.ensures.room shop groups room.at_front;
  front_bounds = omega (arith, c.keep_children-in-Back.ensures.bound_count, room.front_bounds);
  back_bounds = omega (arith, c.open_at-in-Back.ensures.bound_count, room.back_bounds);
}

pub returns-in-Back-clause-child : goal.returns-in-Back-clause-child
returns-in-Back-clause-child g c threshold first last is is_pack has_room limit marked =
    let shop = c.args.instance.now in
    let list = g.V.Vector.list in
    let cap = g.V.Vector.CAP in
    let width = g.V.Vector.WIDTH in
    let end = c.args.put.end in
    let place : ℕ = c.args.put.place in
    let inside = c.requires.at.8 in
    let names = c.args.pack.now.names.items in
    let job : ℕ = slice_index names place in
    let node = c.become_child.new.self in
    let old = c.args.parent.now.left in
    let left = c.clear.new.self in
    let kept = c.args.parent.now.front.below in
    let begin = c.clear-in-Back.new.self in
    let room : HasStartRoom shop c.len-groups.result c.args.parent.now.front.starts.items = record {
      enough = omega (
        arith,
        c.requires.at.10.at_front.enough,
        c.len-groups.ensures,
        c.args.pack.now.groups.ok.0,
      );
      machines = c.requires.at.10.at_front.machines;
    } in
    let rests : AreRests g.V.Vector.pair_of cap shop.machines Front node c.pairs_of_sums-rest-in-Back.result =
    λ on low.
    let at = c.requires.at in
    let put : ℕ = slice_index c.args.pack.now.names.items place in
    let fits = node-fits shop (first_with end at.1 put) (last_with end at.2 put) node cap at.0 c.args.self.now.limit
    (c.become_child.ensures at.1 at.2 put at.3.is_node (put-job at.3 at.4 end place at.8 at.9)
    (put-fresh at.3 at.4 end place at.8 at.9)
    (put-row at.3 at.4 end place at.8 at.9 c.args.self.now.rows.items c.index.result.now c.from.result
    c.index-row.result.now at.5.rows c.index.ensures c.from.ensures c.index-row.ensures))
    (put-below at.3 at.4 end place at.8 at.9) at.6 c.requires.limit on low in
    (c.pairs_of_sums-rest-in-Back.ensures on (omega (arith, low, has_room.machines)), omega (arith, fits.0)) in
    let range = put-job is is_pack end place inside marked in
    let fresh = put-fresh is is_pack end place inside marked in
    let is_node : IsNode shop (first_with Back first job) (last_with Back last job) node =
    subst (λ end. IsNode shop (first_with end first job) (last_with end last job) node) c.in-Back.is
    (c.become_child.ensures first last job is.is_node range fresh
    (put-row is is_pack end place inside marked c.args.self.now.rows.items c.index.result.now c.from.result
    c.index-row.result.now has_room.rows c.index.ensures c.from.ensures c.index-row.ensures)) in
    let has_left = put-left is is_pack end place inside marked Back left c.clear.ensures.parted in
    let count : length names ≡ c.len-groups.result * 16 =
    omega (arith, is_pack.room.names, c.len-groups.ensures, c.args.pack.now.groups.ok.0) in
    let under : (at : ℕ) → at < length names → at / 16 < c.len-groups.result = λ at low. omega (arith, low, count) in
    subst (λ end. IsOpenNode list cap width shop threshold (first_with end first job) (last_with end last job)
    c.args.pack.now (record {
      node = node;
      left = left;
      front = c.keep_children-in-Back.new.children;
      back = c.open_at-in-Back.new.children;
    })) (sym c.in-Back.is) (record {
      is_node = is_node;
      has_left = has_left;
      at_back = c.open_at-in-Back.ensures.children shop threshold (first_with Back first job) (last_with Back last job)
          limit is_node is_pack has_left;
      at_front = kept-children list cap width shop threshold Back first last names job c.args.parent.now.node old left
          c.args.parent.now.front c.keep_children-in-Back.new.children is.is_node range fresh is.has_left has_left
          (cleared-was old.words left.words place c.clear.ensures.same c.clear.ensures.others)
          is_pack.room.jobs is.at_front
          (λ at low one.
          let cleared = c.keep_children-in-Back.ensures.within at (under at low) one in
          let was = cleared-was kept.words begin.words place c.clear-in-Back.ensures.same
          c.clear-in-Back.ensures.others at cleared in
          let apart = cleared-apart kept.words begin.words place c.clear-in-Back.ensures.same
          c.clear-in-Back.ensures.others at cleared in
          (c.clear.ensures.others at apart ∙ is.at_front.within at low was, was))
          (λ at low was also. c.keep_children-in-Back.ensures.exact shop threshold Front (first_with Back first job)
          (last_with Back last job) (slice_index names at) node at limit room
          is_node rests (is_pack.room.jobs at low)
          (marked-left shop.jobs (first_with Back first job ++ last_with Back last job) left.words names has_left at
          low was) (under at low)
          (c.clear-in-Back.ensures.others at
          (cleared-apart old.words left.words place c.clear.ensures.same c.clear.ensures.others at was) ∙ also)
          (λ none.
          let was_known = is.at_front.known at low also in
          kept-starts list cap width shop Back first last names job old c.args.parent.now.front is.at_front at none
          was_known.0 low (is.at_front.within at low also) was_known.1))
          (λ at before low one was. c.keep_children-in-Back.ensures.known at before (under at low) one was)
          (λ at none bounds low was same starts. c.keep_children-in-Back.ensures.whole shop Front (first_with Back first job)
          (last_with Back last job) (slice_index names at) node at none bounds room is_node rests
          (is_pack.room.jobs at low)
          (marked-left shop.jobs (first_with Back first job ++ last_with Back last job) left.words names has_left at
          low was) (under at low) same starts)
          (c.keep_children-in-Back.ensures.count names count);
    })

pub open_at-requires-clause-bounds : goal.open_at-requires-clause-bounds
open_at-requires-clause-bounds g c = c.requires.at.11.front_bounds

pub keep_children-requires-clause-bounds : goal.keep_children-requires-clause-bounds
keep_children-requires-clause-bounds g c =
    let long = c.args.pack.now.groups.ok.0 in (
      omega (arith, c.requires.at.10.back_bounds, c.len-groups.ensures, long),
      omega (arith, c.requires.at.11.back_bounds, c.len-groups.ensures, long),
    )

pub open_at-requires-in-Back-clause-bounds : goal.open_at-requires-in-Back-clause-bounds
open_at-requires-in-Back-clause-bounds g c = c.requires.at.11.back_bounds

pub keep_children-requires-in-Back-clause-bounds : goal.keep_children-requires-in-Back-clause-bounds
keep_children-requires-in-Back-clause-bounds g c =
    let long = c.args.pack.now.groups.ok.0 in (
      omega (arith, c.requires.at.10.front_bounds, c.len-groups.ensures, long),
      omega (arith, c.requires.at.11.front_bounds, c.len-groups.ensures, long),
    )
