-- `maps::column::Column::follow`: the node number is the measure, since the walk goes on at a smaller one.
use Rattle.maps.proofs.column.Column.+follow.Given as goal

abbrev pub decreases-follow : goal.decreases-follow
decreases-follow l = l.at
