mod Starting
mod Walking
